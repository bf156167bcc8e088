-- What is asked of clauses, predicates and the procedure that are read: few names, and sizes that a block may have.
use Rattle.std.specs.Prelude.{[], List, length, ◌≤◌, ◌≡◌}
use Rattle.std.specs.List.{All}
use Rattle.cyp_reading.specs.Readable.{BodyReadable, LitReadable}
use Rattle.cyp_names.specs.PredFaults.{size_faults}
use Rattle.cyp_names.specs.ReadTerms.{Scope}
use Rattle.cyp_names.specs.Specifications.{clause_scope, goal_scope}
use Rattle.cyp_text.specs.declared.tree.ClauseTree.{ClauseTree}
use Rattle.cyp_text.specs.declared.tree.ParamTree.{ParamTree}
use Rattle.cyp_text.specs.declared.tree.PredTree.{PredTree}
use Rattle.cyp_text.specs.declared.tree.TextTree.{TextTree}

-- the guard and the body of a clause in its scope
pub record ClauseIn (qs : List PredTree) (sc : Scope) (c : ClauseTree) : Type 0 where
  pub few : length sc ≤ 255
  pub guard : LitReadable sc c.guard
  pub body : BodyReadable qs sc c.body

-- a clause of a predicate with these parameters
pub record ClauseReadable (qs : List PredTree) (ps : List ParamTree) (c : ClauseTree) : Type 0 where
  pub inside : ClauseIn qs (clause_scope qs ps c) c
  pub sizes : size_faults c.body ≡ []

-- the first clause, and each of the others
abbrev pub PredReadable : List PredTree → PredTree → Type 0
PredReadable qs q = ClauseReadable qs q.params q.first × All (ClauseReadable qs q.params) q.others

-- the two bodies in their scope, whatever the sizes of blocks; few instances get cardinalities
pub record GoalIn (sc : Scope) (t : TextTree) : Type 0 where
  pub few : length sc ≤ 255
  pub few_chunks : length t.pre.chunks ≤ 255
  pub pre : BodyReadable t.preds sc t.pre
  pub post : BodyReadable t.preds sc t.post

-- a procedure
abbrev pub GoalReadable : TextTree → Type 0
GoalReadable t = GoalIn (goal_scope t) t
