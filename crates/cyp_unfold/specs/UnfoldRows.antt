-- The rows of Open and Close, whose instances have a tag below the unfold limit.
use Rattle.std.specs.Prelude.{[], List, Option, Some, cond, length, map, nat_lt, slice_get, suc, ℕ, ◌∷◌}
use Rattle.cyp_heap.specs.declared.chunk.Chunk.{Chunk}
use Rattle.cyp_heap.specs.declared.chunk.Chunk.TheVariants.{Inst}
use Rattle.cyp_heap.specs.declared.goal.Node.{Node}
use Rattle.cyp_pred.specs.Unfold.{clauses_of, count_from}
use Rattle.cyp_step.specs.Rows.{rows}
use Rattle.cyp_step.specs.declared.rule.Row.{Row}
use Rattle.cyp_step.specs.declared.rule.Rule.TheVariants.{ByClose, ByOpen}
use Rattle.cyp_unify.specs.Frames.{focus}

-- the places of instances whose tag is below the limit, counted from this place
abbrev pub openable : ℕ → ℕ → List Chunk → List ℕ
openable limit k [] = []
openable limit k (Inst i ∷ cs) = cond (nat_lt i.tag limit) (k ∷ openable limit (suc k) cs) (openable limit (suc k) cs)
openable limit k (c ∷ cs) = openable limit (suc k) cs

-- the rows that unfold an instance of the precondition whose tag is below the limit
abbrev pub open_rows : Node → ℕ → List Row
open_rows n limit = rows n (map ByOpen (openable limit 0 n.goal.pre.chunks))

-- the clauses by which the focus may be folded, where its tag is below the limit
abbrev pub closable : Node → ℕ → Option Chunk → List ℕ
closable n limit (Some (Inst i)) = cond (nat_lt i.tag limit) (count_from 0 (length (clauses_of (slice_get n.preds.list i.pred)))) []
closable n limit _ = []

-- the rows that fold the focus by one of its clauses, where its tag is below the limit
abbrev pub close_rows : Node → ℕ → List Row
close_rows n limit = rows n (map ByClose (closable n limit (focus n.goal)))
