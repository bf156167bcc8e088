-- Rows and moves, computed at roots and at the nodes of a list that is freed.
use Rattle.std.proofs.Common.{◌≡◌, ℕ, List, [], ◌∷◌, length, map, refl}
use Rattle.cyp_call.specs.CallRows.{call_rows}
use Rattle.cyp_flat.specs.FlatRows.{flat_rows, pick_rows}
use Rattle.cyp_heap.specs.declared.goal.Node.{Node}
use Rattle.cyp_moves.specs.Moves.{is_any, moves, moves_of_kinds, weight}
use Rattle.cyp_space.specs.Alts.{AltOf}
use Rattle.cyp_step.specs.declared.rule.Row.{Row}
use Rattle.cyp_step.specs.declared.rule.Rule.{Rule}
use Rattle.cyp_step.specs.declared.rule.Rule.TheVariants.{ByCall, ByClose, ByEmp, ByFree, ByInconsistent, ByOpen, ByRead, ByWrite}
use Rattle.cyp_term.specs.Entailment.{arrangement_fits, arrangements, class_literals, entailed, satisfiable}
use Rattle.cyp_term.specs.Integers.{all_cases, both, eliminate, eliminate_all, feasible, ints_fit, joined}
use Rattle.cyp_term.specs.Regions.{all_set_vars, all_terms, regions_fit}
use Rattle.cyp_unfold.specs.UnfoldRows.{close_rows, open_rows}
use Rattle.cyp_heap.proofs.Short.{dispose, from_nothing, left_as_is, two_at_one, write_five}
use Rattle.cyp_step.proofs.ExamplesDispose.{call_rest, called, cons_node, freed, nil_node, read_once, read_twice}
use Rattle.cyp_step.proofs.ExamplesStores.{call_by, read_behind}

-- the rules of rows, in order
abbrev rules : List Row → List Rule
rules rs = map (λ (r : Row). r.rule) rs

-- the rules of the moves with two unfoldings, each with its cost
abbrev priced : Node → List (Rule × ℕ)
priced n = map (λ (a : AltOf Rule Node). (a.rule, a.cost)) (moves_of_kinds is_any 2 n)

-- ---- rows

contradiction_alone : rules (flat_rows two_at_one) ≡ ByInconsistent ∷ []
unfolding joined eliminate eliminate_all feasible both all_cases ints_fit arrangements class_literals arrangement_fits satisfiable entailed regions_fit all_terms all_set_vars
contradiction_alone = refl

-- its frame isn't shown, and its content needn't be read
one_write : rules (flat_rows write_five) ≡ ByWrite 0 ∷ []
unfolding joined eliminate eliminate_all feasible both all_cases ints_fit arrangements class_literals arrangement_fits satisfiable entailed regions_fit all_terms all_set_vars
one_write = refl

no_guess : pick_rows write_five ≡ []
unfolding joined eliminate eliminate_all feasible both all_cases ints_fit arrangements class_literals arrangement_fits satisfiable entailed regions_fit all_terms all_set_vars
no_guess = refl

-- one row, with a premise for each clause
one_open : map (λ (r : Row). length r.premises) (open_rows left_as_is 2) ≡ 2 ∷ []
unfolding joined eliminate eliminate_all feasible both all_cases ints_fit arrangements class_literals arrangement_fits satisfiable entailed regions_fit all_terms all_set_vars
one_open = refl

-- a row for each clause
two_closes : rules (close_rows left_as_is 2) ≡ ByClose 0 ∷ ByClose 1 ∷ []
unfolding joined eliminate eliminate_all feasible both all_cases ints_fit arrangements class_literals arrangement_fits satisfiable entailed regions_fit all_terms all_set_vars
two_closes = refl

-- the rest of a list was unfolded once
opened_once : rules (open_rows freed 2) ≡ ByOpen 0 ∷ []
unfolding joined eliminate eliminate_all feasible both all_cases ints_fit arrangements class_literals arrangement_fits satisfiable entailed regions_fit all_terms all_set_vars
opened_once = refl

not_again : open_rows freed 1 ≡ []
unfolding joined eliminate eliminate_all feasible both all_cases ints_fit arrangements class_literals arrangement_fits satisfiable entailed regions_fit all_terms all_set_vars
not_again = refl

one_call : rules (call_rows read_twice) ≡ ByCall call_rest ∷ []
unfolding joined eliminate eliminate_all feasible both all_cases ints_fit arrangements class_literals arrangement_fits satisfiable entailed regions_fit all_terms all_set_vars
one_call = refl

-- the cell of the call may be any of three
three_calls : rules (call_rows read_behind) ≡ ByCall (call_by 2) ∷ ByCall (call_by 3) ∷ ByCall (call_by 4) ∷ []
unfolding joined eliminate eliminate_all feasible both all_cases ints_fit arrangements class_literals arrangement_fits satisfiable entailed regions_fit all_terms all_set_vars
three_calls = refl

-- ---- moves

no_move : moves_of_kinds is_any 2 from_nothing ≡ []
unfolding joined eliminate eliminate_all feasible both all_cases ints_fit arrangements class_literals arrangement_fits satisfiable entailed regions_fit all_terms all_set_vars
no_move = refl

root_moves : priced dispose ≡ (ByOpen 0, 5) ∷ []
unfolding joined eliminate eliminate_all feasible both all_cases ints_fit arrangements class_literals arrangement_fits satisfiable entailed regions_fit all_terms all_set_vars
root_moves = refl

nil_moves : priced nil_node ≡ (ByEmp, 0) ∷ []
unfolding joined eliminate eliminate_all feasible both all_cases ints_fit arrangements class_literals arrangement_fits satisfiable entailed regions_fit all_terms all_set_vars
nil_moves = refl

-- a read stands alone, at the least place
cons_moves : priced cons_node ≡ (ByRead 2, 0) ∷ []
unfolding joined eliminate eliminate_all feasible both all_cases ints_fit arrangements class_literals arrangement_fits satisfiable entailed regions_fit all_terms all_set_vars
cons_moves = refl

once_moves : priced read_once ≡ (ByRead 3, 0) ∷ []
unfolding joined eliminate eliminate_all feasible both all_cases ints_fit arrangements class_literals arrangement_fits satisfiable entailed regions_fit all_terms all_set_vars
once_moves = refl

twice_moves : priced read_twice ≡ (ByFree 1, 1) ∷ (ByCall call_rest, 3) ∷ (ByOpen 0, 5) ∷ []
unfolding joined eliminate eliminate_all feasible both all_cases ints_fit arrangements class_literals arrangement_fits satisfiable entailed regions_fit all_terms all_set_vars
twice_moves = refl

freed_moves : priced freed ≡ (ByCall call_rest, 3) ∷ (ByOpen 0, 5) ∷ []
unfolding joined eliminate eliminate_all feasible both all_cases ints_fit arrangements class_literals arrangement_fits satisfiable entailed regions_fit all_terms all_set_vars
freed_moves = refl

called_moves : priced called ≡ (ByEmp, 0) ∷ []
unfolding joined eliminate eliminate_all feasible both all_cases ints_fit arrangements class_literals arrangement_fits satisfiable entailed regions_fit all_terms all_set_vars
called_moves = refl

-- of what is built today none unfolds
built_alone : moves 2 dispose ≡ []
unfolding joined eliminate eliminate_all feasible both all_cases ints_fit arrangements class_literals arrangement_fits satisfiable entailed regions_fit all_terms all_set_vars
built_alone = refl

weights : (weight dispose ≡ 1) × (weight left_as_is ≡ 3) × (weight read_twice ≡ 4)
weights = (refl, refl, refl)
