-- The move table: which steps a search tries at a node, in which order and at what cost.
use Rattle.std.specs.Prelude.{[], ◌*◌, ◌+◌, ◌++◌, Bool, List, false, filter, length, map, take, true, ℕ}
use Rattle.cyp_call.specs.CallRows.{call_rows}
use Rattle.cyp_flat.specs.FlatRows.{heap_rows, lone_rows, pick_rows}
use Rattle.cyp_heap.specs.declared.goal.Node.{Node}
use Rattle.cyp_space.specs.Alts.{AltOf}
use Rattle.cyp_step.specs.Rows.{first_of_all}
use Rattle.cyp_step.specs.Shown.{dead}
use Rattle.cyp_step.specs.declared.rule.Row.{Row}
use Rattle.cyp_step.specs.declared.rule.Rule.{Rule}
use Rattle.cyp_step.specs.declared.rule.Rule.TheVariants.{ByAlloc, ByCall, ByClose, ByEmp, ByFrame, ByFree, ByInconsistent, ByOpen, ByPick, ByRead, ByWrite}
use Rattle.cyp_unfold.specs.UnfoldRows.{close_rows, open_rows}

-- what each rule costs
abbrev pub cost_of : Rule → ℕ
cost_of ByInconsistent = 0
cost_of ByEmp = 0
cost_of (ByRead i) = 0
cost_of (ByFrame i) = 1
cost_of (ByWrite i) = 1
cost_of (ByFree i) = 1
cost_of ByAlloc = 3
cost_of (ByCall c) = 3
cost_of (ByOpen i) = 5
cost_of (ByClose c) = 4
cost_of (ByPick u) = 6

-- the kinds of row that are built today
abbrev pub is_built : Rule → Bool
is_built ByInconsistent = true
is_built ByEmp = true
is_built (ByRead i) = true
is_built (ByFrame i) = true
is_built (ByWrite i) = true
is_built (ByFree i) = true
is_built ByAlloc = true
is_built (ByPick u) = true
is_built _ = false

-- every kind of row
abbrev pub is_any : Rule → Bool
is_any r = true

-- the rows of these kinds
abbrev pub of_kinds : (Rule → Bool) → List Row → List Row
of_kinds kinds rs = filter (λ (r : Row). kinds r.rule) rs

-- the table with rows of these kinds: a contradiction, the end or a read stands alone, and a guess is made only where nothing else is left
abbrev pub table : (Rule → Bool) → ℕ → Node → List Row
table kinds limit n =
    first_of_all (of_kinds kinds (lone_rows n)) (λ _.
    first_of_all (of_kinds kinds (heap_rows n ++ call_rows n ++ open_rows n limit ++ close_rows n limit)) (λ _.
    of_kinds kinds (pick_rows n)))

-- a row with its cost
abbrev pub priced : Row → AltOf Rule Node
priced r = record { rule = r.rule; cost = cost_of r.rule; premises = r.premises }

-- the moves of a node: none where it is dead, and at most 48
abbrev pub moves_of_kinds : (Rule → Bool) → ℕ → Node → List (AltOf Rule Node)
moves_of_kinds kinds limit n = elim (dead n.goal) [ true ↦ [] | false ↦ map priced (take 48 (table kinds limit n)) ]

-- the moves that a search tries today
abbrev pub moves : ℕ → Node → List (AltOf Rule Node)
moves limit n = moves_of_kinds is_built limit n

-- the chunks of the precondition, and twice those of the postcondition
abbrev pub weight : Node → ℕ
weight n = length n.goal.pre.chunks + 2 * length n.goal.post.chunks
