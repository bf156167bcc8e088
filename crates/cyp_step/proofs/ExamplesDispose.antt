-- A list freed, rule by rule: the nodes from the root to the end, and the program variables' names before the normal form.
use Rattle.std.proofs.Common.{◌≡◌, ℕ, List, [], ◌∷◌, Some, None, false, refl}
use Rattle.cyp_heap.specs.Limits.{node_units}
use Rattle.cyp_heap.specs.declared.chunk.Chunk.{Chunk}
use Rattle.cyp_heap.specs.declared.goal.Link.{Link}
use Rattle.cyp_heap.specs.declared.goal.Node.{Node}
use Rattle.cyp_step.specs.Mends.{writes_for}
use Rattle.cyp_step.specs.Shown.{dead}
use Rattle.cyp_step.specs.Step.{renamed_premises}
use Rattle.cyp_step.specs.declared.rule.CallBy.{CallBy}
use Rattle.cyp_step.specs.declared.rule.Rule.TheVariants.{ByCall, ByEmp, ByFree, ByOpen, ByRead}
use Rattle.cyp_term.specs.Entailment.{arrangement_fits, arrangements, class_literals, entailed, satisfiable}
use Rattle.cyp_term.specs.Integers.{all_cases, both, eliminate, eliminate_all, feasible, ints_fit, joined}
use Rattle.cyp_term.specs.Regions.{all_set_vars, all_terms, regions_fit}
use Rattle.cyp_term.specs.declared.lit.Lit.{Lit}
use Rattle.cyp_term.specs.declared.lit.Lit.TheVariants.{Eq, Lt, Ne, Same}
use Rattle.cyp_term.specs.declared.subst.Subst.{Subst}
use Rattle.cyp_term.specs.declared.term.Term.{Term}
use Rattle.cyp_term.specs.declared.term.Var.{Var}
use Rattle.cyp_unify.specs.Matches.{match_at, matches}
use Rattle.cyp_unify.specs.declared.found.Match.{Match}
use Rattle.cyp_heap.proofs.Short.{K, S, X, X+, block, cell, dispose, k, list_tagged, lists, node, num, s, with_elem, x}

-- ---- the nodes

-- the root as a companion, where its list has this cardinality and these members
abbrev root_link : List Term → Subst → Link
root_link tuple m = record { goal = dispose.goal; own = K 0 ∷ []; map = m; tuple = tuple }

-- in the empty list the members are of no use
abbrev nil_link : Link
nil_link = root_link (K 0 ∷ []) (record { ints = record { var = x 0; to = X 0 } ∷ record { var = k 0; to = K 0 } ∷ []; sets = [] })

-- the list above, whose members are those of this variable
abbrev pub cons_link : ℕ → Link
cons_link m = root_link (K 1 ∷ []) (record { ints = record { var = x 0; to = X 0 } ∷ record { var = k 0; to = K 1 } ∷ []; sets = record { var = s 0; to = S m } ∷ [] })

abbrev pub nil_node : Node
nil_node = record (node lists (x 0 ∷ []) [] (Eq (X 0) (num 0) ∷ []) [] [] []) { links = nil_link ∷ [] }

-- what is known of a list that isn't empty: its first content and its members
abbrev pub cons_lits : ℕ → ℕ → ℕ → List Lit
cons_lits content all rest = Ne (X 0) (num 0) ∷ Same (S all) (with_elem (X content) rest) ∷ Lt (K 0) (K 1) ∷ Lt (num 0) (X 0) ∷ []

-- the first content and the rest of the list by these variables
abbrev pub cons_chunks : ℕ → ℕ → List Chunk
cons_chunks content rest = list_tagged 1 (X rest) (S 0) (Some (k 0)) ∷ block (X 0) 2 ∷ cell (X 0) (X content) ∷ cell (X+ 0 1) (X rest) ∷ []

-- a node in the list that isn't empty
abbrev cons_part : List Var → List Lit → List Chunk → ℕ → Node
cons_part program lits chunks all = record (node lists program [] lits chunks [] []) { links = cons_link all ∷ [] }

abbrev pub cons_node : Node
cons_node = cons_part (x 0 ∷ []) (cons_lits 2 1 0) (cons_chunks 2 1) 1

abbrev pub read_once : Node
read_once = cons_part (x 0 ∷ x 1 ∷ []) (cons_lits 1 1 0) (cons_chunks 1 2) 1

abbrev pub read_twice : Node
read_twice = cons_part (x 0 ∷ x 1 ∷ x 2 ∷ []) (cons_lits 1 1 0) (cons_chunks 1 2) 1

abbrev pub freed : Node
freed = cons_part (x 0 ∷ x 1 ∷ x 2 ∷ []) (cons_lits 1 1 0) (list_tagged 1 (X 2) (S 0) (Some (k 0)) ∷ []) 1

abbrev pub called : Node
called = cons_part (x 0 ∷ x 1 ∷ []) (cons_lits 1 0 1) [] 0

-- the only match of the companion
abbrev pub call_rest : CallBy
call_rest = record { link = 0; pairs = 0 ∷ [] }

-- ---- the rules

-- one premise for each clause
opens : renamed_premises dispose (ByOpen 0) ≡ Some (record { node = nil_node; old = x 0 ∷ [] } ∷ record { node = cons_node; old = x 0 ∷ [] } ∷ [])
unfolding joined eliminate eliminate_all feasible both all_cases ints_fit arrangements class_literals arrangement_fits satisfiable entailed regions_fit all_terms all_set_vars
opens = refl

-- nothing is left to do
nil_ends : renamed_premises nil_node ByEmp ≡ Some []
unfolding joined eliminate eliminate_all feasible both all_cases ints_fit arrangements class_literals arrangement_fits satisfiable entailed regions_fit all_terms all_set_vars
nil_ends = refl

-- the content gets a new name
reads_content : renamed_premises cons_node (ByRead 2) ≡ Some (record { node = read_once; old = x 0 ∷ x 3 ∷ [] } ∷ [])
unfolding joined eliminate eliminate_all feasible both all_cases ints_fit arrangements class_literals arrangement_fits satisfiable entailed regions_fit all_terms all_set_vars
reads_content = refl

-- and so does the rest of the list
reads_rest : renamed_premises read_once (ByRead 3) ≡ Some (record { node = read_twice; old = x 0 ∷ x 1 ∷ x 3 ∷ [] } ∷ [])
unfolding joined eliminate eliminate_all feasible both all_cases ints_fit arrangements class_literals arrangement_fits satisfiable entailed regions_fit all_terms all_set_vars
reads_rest = refl

-- a variable that has a name isn't read again
not_again : renamed_premises read_twice (ByRead 2) ≡ None
unfolding joined eliminate eliminate_all feasible both all_cases ints_fit arrangements class_literals arrangement_fits satisfiable entailed regions_fit all_terms all_set_vars
not_again = refl

-- the block goes with both its cells
frees : renamed_premises read_twice (ByFree 1) ≡ Some (record { node = freed; old = x 0 ∷ x 1 ∷ x 2 ∷ [] } ∷ [])
unfolding joined eliminate eliminate_all feasible both all_cases ints_fit arrangements class_literals arrangement_fits satisfiable entailed regions_fit all_terms all_set_vars
frees = refl

-- the rest of the list goes, and with it the only use of its address
calls : renamed_premises freed (ByCall call_rest) ≡ Some (record { node = called; old = x 0 ∷ x 1 ∷ [] } ∷ [])
unfolding joined eliminate eliminate_all feasible both all_cases ints_fit arrangements class_literals arrangement_fits satisfiable entailed regions_fit all_terms all_set_vars
calls = refl

call_ends : renamed_premises called ByEmp ≡ Some []
unfolding joined eliminate eliminate_all feasible both all_cases ints_fit arrangements class_literals arrangement_fits satisfiable entailed regions_fit all_terms all_set_vars
call_ends = refl

-- ---- the companion

-- the rest of the list is paired with the whole, and the call needs no store
abbrev pub rest_match : Match
rest_match = record {
  pairs = 0 ∷ [];
  by = record { ints = record { var = x 0; to = X 2 } ∷ record { var = k 0; to = K 0 } ∷ []; sets = record { var = s 0; to = S 0 } ∷ [] };
  need = [];
  mends = [];
}

one_match : matches read_twice (cons_link 1) ≡ rest_match ∷ []
one_match = refl

that_match : match_at read_twice (cons_link 1) (0 ∷ []) ≡ Some rest_match
that_match = refl

no_pairs : match_at read_twice (cons_link 1) [] ≡ None
no_pairs = refl

no_stores : writes_for read_twice.goal rest_match ≡ Some []
unfolding joined eliminate eliminate_all feasible both all_cases ints_fit arrangements class_literals arrangement_fits satisfiable entailed regions_fit all_terms all_set_vars
no_stores = refl

units : node_units read_twice ≡ 34
units = refl

not_dead : dead read_twice.goal ≡ false
unfolding joined eliminate eliminate_all feasible both all_cases ints_fit arrangements class_literals arrangement_fits satisfiable entailed regions_fit all_terms all_set_vars
not_dead = refl

-- before both reads the address of the rest has no name
nameless : renamed_premises read_once (ByCall call_rest) ≡ None
unfolding joined eliminate eliminate_all feasible both all_cases ints_fit arrangements class_literals arrangement_fits satisfiable entailed regions_fit all_terms all_set_vars
nameless = refl

-- a call on the list itself isn't allowed, for its cardinality isn't below its own
no_descent : renamed_premises (record dispose { links = root_link (K 0 ∷ []) (record { ints = []; sets = [] }) ∷ [] }) (ByCall call_rest) ≡ None
unfolding joined eliminate eliminate_all feasible both all_cases ints_fit arrangements class_literals arrangement_fits satisfiable entailed regions_fit all_terms all_set_vars
no_descent = refl
