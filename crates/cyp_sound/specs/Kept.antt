-- What the types of goals and predicates keep of their parts.
use Rattle.cyp_goal.specs.Named.{GoalFits, parts_fit}
use Rattle.cyp_heap.specs.Chunks.{in_order}
use Rattle.cyp_heap.specs.declared.chunk.Chunk.{Chunk}
use Rattle.cyp_heap.specs.declared.chunk.Chunk.TheVariants.{Block}
use Rattle.cyp_heap.specs.declared.goal.Goal.{Goal}
use Rattle.cyp_heap.specs.declared.pred.Clause.{Clause}
use Rattle.cyp_heap.specs.declared.pred.Pred.{Pred}
use Rattle.cyp_heap.specs.declared.pred.Preds.{Preds}
use Rattle.std.specs.List.{list_all}
use Rattle.std.specs.Prelude.{Bool, IsTrue, nat_le, true, ◌&&◌}

-- a block has at most 8 cells
abbrev pub is_small : Chunk → Bool
is_small (Block k) = nat_le k.size 8
is_small _ = true

-- so it is in all clauses of the predicates
abbrev pub are_small : Preds → Bool
are_small preds = list_all (λ (q : Pred). list_all (λ (c : Clause). list_all is_small c.heap.chunks) q.clauses) preds.list

-- the variables of a chunk but for its cardinality have the sorts of their places, and a block has at most 8 cells
abbrev pub is_kept : Chunk → Bool
is_kept c = parts_fit c && is_small c

-- what a goal keeps
pub record IsKept (g : Goal) : Type 0 where
  pub order : IsTrue (in_order g.pre.chunks)
  pub fits : GoalFits g
  pub post_small : IsTrue (list_all is_small g.post.chunks)
