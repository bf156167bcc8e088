-- Rows of the move table: a rule that is allowed, none of whose premises is dead.
use Rattle.std.specs.Prelude.{[], List, None, Option, Some, false, filter_map, length, true, ℕ, ◌∷◌}
use Rattle.std.specs.List.{list_any}
use Rattle.cyp_heap.specs.declared.goal.Node.{Node}
use Rattle.cyp_pred.specs.Unfold.{count_from}
use Rattle.cyp_step.specs.Shown.{dead}
use Rattle.cyp_step.specs.Step.{premises}
use Rattle.cyp_step.specs.declared.rule.Row.{Row}
use Rattle.cyp_step.specs.declared.rule.Rule.{Rule}

-- the row of a rule, unless the rule isn't allowed or a premise is dead
abbrev pub row : Node → Rule → Option Row
row n r = elim (premises n r) [
  | None ↦ None
  | Some ns ↦ elim (list_any (λ (m : Node). dead m.goal) ns) [ true ↦ None | false ↦ Some (record { rule = r; premises = ns }) ]
]

-- the rows of these rules in order, leaving out each rule that has no row
abbrev pub rows : Node → List Rule → List Row
rows n rs = filter_map (row n) rs

-- the first rule that is allowed, whether or not a premise is dead
abbrev pub least_allowed : Node → List Rule → List Rule
least_allowed n [] = []
least_allowed n (r ∷ rs) = elim (premises n r) [ Some ns ↦ r ∷ [] | None ↦ least_allowed n rs ]

-- the places of the precondition's chunks
abbrev pub pre_places : Node → List ℕ
pre_places n = count_from 0 (length n.goal.pre.chunks)

-- a row, or else what comes later
abbrev pub first_of_all : List Row → (Unit {0} → List Row) → List Row
first_of_all [] later = later tt
first_of_all (r ∷ rs) later = r ∷ rs
