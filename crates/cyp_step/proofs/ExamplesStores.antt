-- A call that needs a store before it, computed: a list behind a cell, whose content is a parameter.
use Rattle.std.proofs.Common.{◌≡◌, ℕ, List, [], ◌∷◌, Some, refl}
use Rattle.cyp_heap.specs.declared.chunk.Chunk.{Chunk}
use Rattle.cyp_heap.specs.declared.goal.Link.{Link}
use Rattle.cyp_heap.specs.declared.goal.Node.{Node}
use Rattle.cyp_step.specs.Mends.{writes_for}
use Rattle.cyp_step.specs.Step.{premises}
use Rattle.cyp_step.specs.declared.rule.CallBy.{CallBy}
use Rattle.cyp_step.specs.declared.rule.Rule.TheVariants.{ByCall, ByOpen, ByRead}
use Rattle.cyp_term.specs.Entailment.{arrangement_fits, arrangements, class_literals, entailed, satisfiable}
use Rattle.cyp_term.specs.Integers.{all_cases, both, eliminate, eliminate_all, feasible, ints_fit, joined}
use Rattle.cyp_term.specs.Regions.{all_set_vars, all_terms, regions_fit}
use Rattle.cyp_term.specs.declared.lit.Lit.{Lit}
use Rattle.cyp_term.specs.declared.lit.Lit.TheVariants.{Eq, Lt, Ne, Same}
use Rattle.cyp_term.specs.declared.subst.SetBind.{SetBind}
use Rattle.cyp_term.specs.declared.term.Term.{Term}
use Rattle.cyp_term.specs.declared.term.Var.{Var}
use Rattle.cyp_unify.specs.Matches.{matches}
use Rattle.cyp_unify.specs.declared.found.Match.{Match}
use Rattle.cyp_heap.proofs.Short.{K, S, X, X+, block, cell, k, list_at, list_tagged, lists, node, num, s, with_elem, x}

-- void f(loc r, loc x) { r :-> x ** sll(x, s) } { r :-> 0 }
abbrev pub behind : Node
behind = node lists (x 0 ∷ x 1 ∷ []) [] (Lt (num 0) (X 0) ∷ []) (list_at (X 1) (S 0) (Some (k 0)) ∷ cell (X 0) (X 1) ∷ []) [] (cell (X 0) (num 0) ∷ [])

-- its companion, where the list's cardinality and members are these
abbrev behind_link : ℕ → List SetBind → Link
behind_link card sets = record {
  goal = behind.goal;
  own = K 0 ∷ [];
  map = record { ints = record { var = x 0; to = X 0 } ∷ record { var = x 1; to = X 1 } ∷ record { var = k 0; to = K card } ∷ []; sets = sets };
  tuple = K card ∷ [];
}

abbrev pub nothing_behind : Node
nothing_behind = record (node lists (x 0 ∷ x 1 ∷ []) [] (Lt (num 0) (X 0) ∷ Eq (X 1) (num 0) ∷ []) (cell (X 0) (X 1) ∷ []) [] (cell (X 0) (num 0) ∷ [])) {
  links = behind_link 0 [] ∷ [];
}

-- in a list that isn't empty, with these program variables, members and chunks
abbrev cons_behind : List Var → Lit → List Chunk → ℕ → Node
cons_behind program members chunks all = record (node lists program [] (Lt (num 0) (X 0) ∷ Ne (X 1) (num 0) ∷ members ∷ Lt (K 0) (K 1) ∷ Lt (num 0) (X 1) ∷ []) chunks [] (cell (X 0) (num 0) ∷ [])) {
  links = behind_link 1 (record { var = s 0; to = S all } ∷ []) ∷ [];
}

-- the list's chunks with its first content and its rest, beside the cell
abbrev cons_cells : ℕ → ℕ → List Chunk
cons_cells content rest = list_tagged 1 (X rest) (S 0) (Some (k 0)) ∷ block (X 1) 2 ∷ cell (X 0) (X 1) ∷ cell (X 1) (X content) ∷ cell (X+ 1 1) (X rest) ∷ []

abbrev pub opened : Node
opened = cons_behind (x 0 ∷ x 1 ∷ []) (Same (S 1) (with_elem (X 3) 0)) (cons_cells 3 2) 1

abbrev pub read : Node
read = cons_behind (x 0 ∷ x 1 ∷ x 2 ∷ []) (Same (S 1) (with_elem (X 2) 0)) (cons_cells 2 3) 1

abbrev pub read_behind : Node
read_behind = cons_behind (x 0 ∷ x 1 ∷ x 2 ∷ x 3 ∷ []) (Same (S 1) (with_elem (X 2) 0)) (cons_cells 2 3) 1

-- the companion's own cell comes back, and the opened list's chunks are left
abbrev pub after_call : Node
after_call = cons_behind (x 0 ∷ x 1 ∷ x 2 ∷ x 3 ∷ []) (Same (S 0) (with_elem (X 2) 1)) (block (X 1) 2 ∷ cell (X 1) (X 2) ∷ cell (X+ 1 1) (X 3) ∷ cell (X 0) (num 0) ∷ []) 0

opens : premises behind (ByOpen 0) ≡ Some (nothing_behind ∷ opened ∷ [])
unfolding joined eliminate eliminate_all feasible both all_cases ints_fit arrangements class_literals arrangement_fits satisfiable entailed regions_fit all_terms all_set_vars
opens = refl

-- the cell's content has a name already
reads : premises opened (ByRead 3) ≡ Some (read ∷ [])
unfolding joined eliminate eliminate_all feasible both all_cases ints_fit arrangements class_literals arrangement_fits satisfiable entailed regions_fit all_terms all_set_vars
reads = refl

reads_again : premises read (ByRead 4) ≡ Some (read_behind ∷ [])
unfolding joined eliminate eliminate_all feasible both all_cases ints_fit arrangements class_literals arrangement_fits satisfiable entailed regions_fit all_terms all_set_vars
reads_again = refl

-- the list is paired with its rest, and the cell with this one, at this address
abbrev pub by_cell : ℕ → Term → Match
by_cell place at = record {
  pairs = 0 ∷ place ∷ [];
  by = record { ints = record { var = x 1; to = X 3 } ∷ record { var = k 0; to = K 0 } ∷ record { var = x 0; to = at } ∷ []; sets = record { var = s 0; to = S 0 } ∷ [] };
  need = [];
  mends = record { cell = place; value = X 3 } ∷ [];
}

-- the cell may be any of three
each_cell : matches read_behind (behind_link 1 (record { var = s 0; to = S 1 } ∷ [])) ≡ by_cell 2 (X 0) ∷ by_cell 3 (X 1) ∷ by_cell 4 (X+ 1 1) ∷ []
each_cell = refl

-- the rest is stored into the cell before the call
stored : writes_for read_behind.goal (by_cell 2 (X 0)) ≡ Some (record { cell = 2; value = X 3 } ∷ [])
unfolding joined eliminate eliminate_all feasible both all_cases ints_fit arrangements class_literals arrangement_fits satisfiable entailed regions_fit all_terms all_set_vars
stored = refl

-- the last cell holds the rest as it is
stored_already : writes_for read_behind.goal (by_cell 4 (X+ 1 1)) ≡ Some []
unfolding joined eliminate eliminate_all feasible both all_cases ints_fit arrangements class_literals arrangement_fits satisfiable entailed regions_fit all_terms all_set_vars
stored_already = refl

-- the call by the first of them
abbrev pub call_by : ℕ → CallBy
call_by place = record { link = 0; pairs = 0 ∷ place ∷ [] }

called : premises read_behind (ByCall (call_by 2)) ≡ Some (after_call ∷ [])
unfolding joined eliminate eliminate_all feasible both all_cases ints_fit arrangements class_literals arrangement_fits satisfiable entailed regions_fit all_terms all_set_vars
called = refl
