-- The rows of the table that are built, before they are cut to 48.
use Rattle.std.specs.Prelude.{List, length, ◌≤◌}
use Rattle.cyp_flat.specs.FlatRows.{flat_rows, pick_rows}
use Rattle.cyp_heap.specs.declared.goal.Node.{Node}
use Rattle.cyp_step.specs.Rows.{first_of_all}
use Rattle.cyp_step.specs.declared.rule.Row.{Row}

-- what neither unfolds nor calls, and where there is no such row, the guesses
abbrev pub built_rows : Node → List Row
built_rows n = first_of_all (flat_rows n) (λ _. pick_rows n)

-- as few premises as an alternative may have
abbrev pub HasFewPremises : Row → Type 0
HasFewPremises r = length r.premises ≤ 255
