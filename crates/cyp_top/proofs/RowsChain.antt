-- Searches that find cells in falling order, computed: with n cells they take 2 ^ n expansions.
use Rattle.std.proofs.Common.{◌≡◌, ℕ, zero, suc, ◌+◌, List, [], ◌∷◌, refl}
use Rattle.std.specs.Fmt.{digits}
use Rattle.std.specs.Prelude.{codes}
use Rattle.cyp_heap.specs.declared.chunk.Chunk.{Chunk}
use Rattle.cyp_heap.specs.declared.goal.Node.{Node}
use Rattle.cyp_term.specs.Entailment.{arrangement_fits, arrangements, class_literals, entailed, satisfiable}
use Rattle.cyp_term.specs.Integers.{all_cases, both, eliminate, eliminate_all, feasible, ints_fit, joined}
use Rattle.cyp_term.specs.Regions.{all_set_vars, all_terms, regions_fit}
use Rattle.cyp_term.specs.declared.lit.Lit.{Lit}
use Rattle.cyp_term.specs.declared.lit.Lit.TheVariants.{Lt}
use Rattle.cyp_term.specs.declared.term.Var.{Var}
use Rattle.cyp_top.specs.Lines.{Output, output}
use Rattle.cyp_top.specs.declared.status.Status.TheVariants.{Program}
use Rattle.cyp_heap.proofs.Short.{X, X+, cell, no_preds, node, num, x}
use Rattle.cyp_top.proofs.RowsShort.{run}

-- this many cells at consecutive addresses, the first of them this far behind the parameter
abbrev cells_from : ℕ → ℕ → List Chunk
cells_from i zero = []
cells_from i (suc n) = cell (X+ 0 i) (num 7) ∷ cells_from (i + 1) n

-- this many cells at existentials, numbered from here on
abbrev places_from : ℕ → ℕ → List Chunk
places_from i zero = []
places_from i (suc n) = cell (X i) (num 7) ∷ places_from (i + 1) n

-- each existential is below the one before
abbrev falling_from : ℕ → ℕ → List Lit
falling_from i zero = []
falling_from i (suc n) = Lt (X (i + 1)) (X i) ∷ falling_from (i + 1) n

abbrev vars_from : ℕ → ℕ → List Var
vars_from i zero = []
vars_from i (suc n) = x i ∷ vars_from (i + 1) n

-- void gen(loc x) { x :-> 7 ** (x + 1) :-> 7 ** .. } { y2 < y1 && y3 < y2 && .. ; y1 :-> 7 ** y2 :-> 7 ** .. }, one cell more than n
abbrev chain : ℕ → Node
chain n = node no_preds (x 0 ∷ []) (vars_from 1 (suc n)) [] (cells_from 0 (suc n)) (falling_from 1 n) (places_from 1 (suc n))

-- nothing is written
abbrev nothing : Output
nothing = output (codes "void gen(v1) {\n}\n") Program

one_cell : run 100 (codes "gen") (chain 0) ≡ (nothing, 2, 2, 1)
unfolding digits joined eliminate eliminate_all feasible both all_cases ints_fit arrangements class_literals arrangement_fits satisfiable entailed regions_fit all_terms all_set_vars
one_cell = refl

two_cells : run 100 (codes "gen") (chain 1) ≡ (nothing, 4, 4, 2)
unfolding digits joined eliminate eliminate_all feasible both all_cases ints_fit arrangements class_literals arrangement_fits satisfiable entailed regions_fit all_terms all_set_vars
two_cells = refl

three_cells : run 100 (codes "gen") (chain 2) ≡ (nothing, 8, 8, 3)
unfolding digits joined eliminate eliminate_all feasible both all_cases ints_fit arrangements class_literals arrangement_fits satisfiable entailed regions_fit all_terms all_set_vars
three_cells = refl

four_cells : run 100 (codes "gen") (chain 3) ≡ (nothing, 16, 16, 4)
unfolding digits joined eliminate eliminate_all feasible both all_cases ints_fit arrangements class_literals arrangement_fits satisfiable entailed regions_fit all_terms all_set_vars
four_cells = refl

five_cells : run 100 (codes "gen") (chain 4) ≡ (nothing, 32, 32, 5)
unfolding digits joined eliminate eliminate_all feasible both all_cases ints_fit arrangements class_literals arrangement_fits satisfiable entailed regions_fit all_terms all_set_vars
five_cells = refl

six_cells : run 100 (codes "gen") (chain 5) ≡ (nothing, 64, 64, 6)
unfolding digits joined eliminate eliminate_all feasible both all_cases ints_fit arrangements class_literals arrangement_fits satisfiable entailed regions_fit all_terms all_set_vars
six_cells = refl
