-- What a node keeps from step to step: limits, instances that fit, links.
use Rattle.std.specs.Prelude.{Bool, IsTrue, ◌≡◌}
use Rattle.std.specs.List.{list_all}
use Rattle.cyp_heap.specs.Chunks.{insts}
use Rattle.cyp_heap.specs.Formed.{IsWellLinked, inst_fits, insts_fit}
use Rattle.cyp_heap.specs.Limits.{is_within_limits}
use Rattle.cyp_heap.specs.declared.goal.Node.{Node}
use Rattle.cyp_heap.specs.declared.pred.Clause.{Clause}
use Rattle.cyp_heap.specs.declared.pred.Pred.{Pred}
use Rattle.cyp_heap.specs.declared.pred.Preds.{Preds}

-- each instance in the clause fits its predicate in number and sorts of arguments
abbrev pub clause_fits : Preds → Clause → Bool
clause_fits preds c = list_all (inst_fits preds) (insts c.heap.chunks)

-- each instance in a clause of this predicate fits its own one
abbrev pub pred_fits : Preds → Pred → Bool
pred_fits preds q = list_all (clause_fits preds) q.clauses

-- each instance in a clause of any of the predicates fits its own one
abbrev pub clauses_fit : Preds → Bool
clauses_fit preds = list_all (pred_fits preds) preds.list

-- a node as a rule leaves it, before the normal form: its instances fit, and it is well linked
pub record IsRaw (n : Node) : Type 0 where
  pub fits : IsTrue (insts_fit n.preds n.goal)
  pub linked : IsWellLinked n

-- a raw node that is within the limits
pub record IsNode (n : Node) : Type 0 where
  pub within : IsTrue (is_within_limits n)
  pub raw : IsRaw n

-- the node has these predicates, and the fact holds of it
pub record IsOver (preds : Preds) (P : Node → Type 0) (n : Node) : Type 0 where
  pub same : n.preds ≡ preds
  pub fact : P n
