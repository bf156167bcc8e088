-- What is shown at a goal, dead goals, and single steps, computed.
use Rattle.std.proofs.Common.{◌≡◌, List, [], ◌∷◌, Some, None, true, false, refl}
use Rattle.cyp_heap.specs.declared.chunk.Chunk.{Chunk}
use Rattle.cyp_heap.specs.declared.goal.Node.{Node}
use Rattle.cyp_step.specs.Shown.{dead, shown}
use Rattle.cyp_step.specs.Step.{premises}
use Rattle.cyp_step.specs.declared.rule.Rule.TheVariants.{ByAlloc, ByClose, ByEmp, ByFrame, ByFree, ByInconsistent, ByOpen, ByPick, ByRead, ByWrite}
use Rattle.cyp_term.specs.Entailment.{arrangement_fits, arrangements, class_literals, entailed, satisfiable}
use Rattle.cyp_term.specs.Integers.{all_cases, both, eliminate, eliminate_all, feasible, ints_fit, joined}
use Rattle.cyp_term.specs.Regions.{all_set_vars, all_terms, regions_fit}
use Rattle.cyp_term.specs.declared.lit.Lit.TheVariants.{Eq, Le, Lt, Ne}
use Rattle.cyp_term.specs.declared.term.Term.{Term}
use Rattle.cyp_heap.proofs.Short.{S, X, block, cell, from_nothing, k, list_at, list_tagged, lists, no_preds, node, num, out_of_reach, s, swap, two_at_one, write_five, x}

-- ---- shown

-- nothing says what is in the cell
unknown_content : shown write_five.goal (Eq (num 5) (X 1) ∷ []) ≡ false
unfolding joined eliminate eliminate_all feasible both all_cases ints_fit arrangements class_literals arrangement_fits satisfiable entailed regions_fit all_terms all_set_vars
unknown_content = refl

known_address : shown write_five.goal (Eq (X 0) (X 0) ∷ []) ≡ true
unfolding joined eliminate eliminate_all feasible both all_cases ints_fit arrangements class_literals arrangement_fits satisfiable entailed regions_fit all_terms all_set_vars
known_address = refl

-- two cells lie apart
cells_apart : shown swap.goal (Ne (X 0) (X 1) ∷ []) ≡ true
unfolding joined eliminate eliminate_all feasible both all_cases ints_fit arrangements class_literals arrangement_fits satisfiable entailed regions_fit all_terms all_set_vars
cells_apart = refl

-- ---- dead

-- chunks of the post don't matter
cell_from_nothing : dead from_nothing.goal ≡ false
unfolding joined eliminate eliminate_all feasible both all_cases ints_fit arrangements class_literals arrangement_fits satisfiable entailed regions_fit all_terms all_set_vars
cell_from_nothing = refl

-- the post contradicts the facts
contradicting_post : dead (node no_preds (x 0 ∷ []) [] (Lt (num 0) (X 0) ∷ []) [] (Eq (X 0) (num 0) ∷ []) []).goal ≡ true
unfolding joined eliminate eliminate_all feasible both all_cases ints_fit arrangements class_literals arrangement_fits satisfiable entailed regions_fit all_terms all_set_vars
contradicting_post = refl

-- the post isn't shown, and nothing in the pre could give it
unshown_post : dead (node no_preds (x 0 ∷ []) [] [] [] (Eq (X 0) (num 0) ∷ []) []).goal ≡ true
unfolding joined eliminate eliminate_all feasible both all_cases ints_fit arrangements class_literals arrangement_fits satisfiable entailed regions_fit all_terms all_set_vars
unshown_post = refl

-- but an instance might
instance_in_pre : dead (node lists (x 0 ∷ []) [] [] (list_at (X 0) (S 0) (Some (k 0)) ∷ []) (Eq (X 0) (num 0) ∷ []) []).goal ≡ false
unfolding joined eliminate eliminate_all feasible both all_cases ints_fit arrangements class_literals arrangement_fits satisfiable entailed regions_fit all_terms all_set_vars
instance_in_pre = refl

-- from a contradiction everything is shown
contradicting_pre : dead (node no_preds (x 0 ∷ []) [] (Lt (X 0) (X 0) ∷ []) [] (Eq (X 0) (num 0) ∷ []) []).goal ≡ false
unfolding joined eliminate eliminate_all feasible both all_cases ints_fit arrangements class_literals arrangement_fits satisfiable entailed regions_fit all_terms all_set_vars
contradicting_pre = refl

-- ---- the end

not_ended : premises from_nothing ByEmp ≡ None
unfolding joined eliminate eliminate_all feasible both all_cases ints_fit arrangements class_literals arrangement_fits satisfiable entailed regions_fit all_terms all_set_vars
not_ended = refl

contradiction : premises two_at_one ByInconsistent ≡ Some []
unfolding joined eliminate eliminate_all feasible both all_cases ints_fit arrangements class_literals arrangement_fits satisfiable entailed regions_fit all_terms all_set_vars
contradiction = refl

no_contradiction : premises write_five ByInconsistent ≡ None
unfolding joined eliminate eliminate_all feasible both all_cases ints_fit arrangements class_literals arrangement_fits satisfiable entailed regions_fit all_terms all_set_vars
no_contradiction = refl

-- ---- cells

-- a cell whose content is of this variable, to be left with this content
abbrev cells : Term → Term → Node
cells before after = node no_preds (x 0 ∷ []) [] (Lt (num 0) (X 0) ∷ []) (cell (X 0) before ∷ []) [] (cell (X 0) after ∷ [])

writes : premises (cells (X 1) (num 5)) (ByWrite 0) ≡ Some (cells (num 5) (num 5) ∷ [])
unfolding joined eliminate eliminate_all feasible both all_cases ints_fit arrangements class_literals arrangement_fits satisfiable entailed regions_fit all_terms all_set_vars
writes = refl

-- what is there isn't written again
not_twice : premises (cells (num 5) (num 5)) (ByWrite 0) ≡ None
unfolding joined eliminate eliminate_all feasible both all_cases ints_fit arrangements class_literals arrangement_fits satisfiable entailed regions_fit all_terms all_set_vars
not_twice = refl

frames : premises (cells (num 5) (num 5)) (ByFrame 0) ≡ Some (node no_preds (x 0 ∷ []) [] (Lt (num 0) (X 0) ∷ []) [] [] [] ∷ [])
unfolding joined eliminate eliminate_all feasible both all_cases ints_fit arrangements class_literals arrangement_fits satisfiable entailed regions_fit all_terms all_set_vars
frames = refl

not_framed : premises (cells (X 1) (num 5)) (ByFrame 0) ≡ None
unfolding joined eliminate eliminate_all feasible both all_cases ints_fit arrangements class_literals arrangement_fits satisfiable entailed regions_fit all_terms all_set_vars
not_framed = refl

-- a content that occurs nowhere else isn't read
nothing_to_read : premises (cells (X 1) (num 5)) (ByRead 0) ≡ None
unfolding joined eliminate eliminate_all feasible both all_cases ints_fit arrangements class_literals arrangement_fits satisfiable entailed regions_fit all_terms all_set_vars
nothing_to_read = refl

-- a logical variable can't be written
no_program_expr : premises (cells (num 5) (X 1)) (ByWrite 0) ≡ None
unfolding joined eliminate eliminate_all feasible both all_cases ints_fit arrangements class_literals arrangement_fits satisfiable entailed regions_fit all_terms all_set_vars
no_program_expr = refl

-- ---- blocks

-- a block with one cell
abbrev one_block : List Chunk → Node
one_block post = node no_preds (x 0 ∷ []) [] (Lt (num 0) (X 0) ∷ []) (block (X 0) 1 ∷ cell (X 0) (X 1) ∷ []) [] post

frees : premises (one_block []) (ByFree 0) ≡ Some (node no_preds (x 0 ∷ []) [] (Lt (num 0) (X 0) ∷ []) [] [] [] ∷ [])
unfolding joined eliminate eliminate_all feasible both all_cases ints_fit arrangements class_literals arrangement_fits satisfiable entailed regions_fit all_terms all_set_vars
frees = refl

-- only where nothing is left to make
free_last : premises (one_block (cell (X 0) (X 1) ∷ [])) (ByFree 0) ≡ None
unfolding joined eliminate eliminate_all feasible both all_cases ints_fit arrangements class_literals arrangement_fits satisfiable entailed regions_fit all_terms all_set_vars
free_last = refl

-- a new block at the existential, with a cell of any content
allocates : premises (node no_preds [] (x 0 ∷ []) [] [] [] (block (X 0) 1 ∷ cell (X 0) (num 3) ∷ [])) ByAlloc ≡ Some (node no_preds (x 0 ∷ []) [] (Lt (num 0) (X 0) ∷ []) (block (X 0) 1 ∷ cell (X 0) (X 1) ∷ []) [] (block (X 0) 1 ∷ cell (X 0) (num 3) ∷ []) ∷ [])
unfolding joined eliminate eliminate_all feasible both all_cases ints_fit arrangements class_literals arrangement_fits satisfiable entailed regions_fit all_terms all_set_vars
allocates = refl

-- ---- instances

-- the empty list is at 0, and has no members
closes_nil : premises (node lists [] (x 0 ∷ s 0 ∷ []) [] [] [] (list_at (X 0) (S 0) None ∷ [])) (ByClose 0) ≡ Some (node lists [] [] [] [] [] [] ∷ [])
unfolding joined eliminate eliminate_all feasible both all_cases ints_fit arrangements class_literals arrangement_fits satisfiable entailed regions_fit all_terms all_set_vars
closes_nil = refl

-- the guards can't be tested
not_testable : premises out_of_reach (ByOpen 0) ≡ None
unfolding joined eliminate eliminate_all feasible both all_cases ints_fit arrangements class_literals arrangement_fits satisfiable entailed regions_fit all_terms all_set_vars
not_testable = refl

-- a tag has no number above 255
tag_255 : premises (node lists (x 0 ∷ []) [] [] (list_tagged 255 (X 0) (S 0) (Some (k 0)) ∷ []) [] []) (ByOpen 0) ≡ None
unfolding joined eliminate eliminate_all feasible both all_cases ints_fit arrangements class_literals arrangement_fits satisfiable entailed regions_fit all_terms all_set_vars
tag_255 = refl

-- ---- a guess

-- the existential is taken to be the second program variable
picks : premises (node no_preds (x 0 ∷ x 1 ∷ []) (x 2 ∷ []) (Lt (num 0) (X 0) ∷ []) [] (Le (X 1) (X 2) ∷ []) (cell (X 0) (X 2) ∷ [])) (ByPick (x 1)) ≡ Some (node no_preds (x 0 ∷ x 1 ∷ []) [] (Lt (num 0) (X 0) ∷ []) [] [] (cell (X 0) (X 1) ∷ []) ∷ [])
unfolding joined eliminate eliminate_all feasible both all_cases ints_fit arrangements class_literals arrangement_fits satisfiable entailed regions_fit all_terms all_set_vars
picks = refl
