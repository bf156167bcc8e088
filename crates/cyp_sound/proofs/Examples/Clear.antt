-- The law at a derivation with an auxiliary procedure: `void clear(loc r) { r :-> x ** sll(x, s) } { r :-> 0 }`.
use Rattle.cyp_goal.specs.Normal.{normal}
use Rattle.cyp_heap.proofs.Short.{K, S, X, X+, block, cell, clear, k, list_at, list_tagged, lists, node, num, s, with_elem, x}
use Rattle.cyp_heap.specs.Formed.{IsFormed}
use Rattle.cyp_heap.specs.declared.chunk.Chunk.{Chunk}
use Rattle.cyp_heap.specs.declared.goal.Link.{Link}
use Rattle.cyp_heap.specs.declared.goal.Node.{Node}
use Rattle.cyp_kernel.specs.Accepted.{IsAccepted}
use Rattle.cyp_kernel.specs.Companions.{Proof}
use Rattle.cyp_kernel.specs.Compile.{program_of}
use Rattle.cyp_kernel.specs.Correct.{IsCorrect, unlinked}
use Rattle.cyp_prog.specs.ProgramText.{program_text}
use Rattle.cyp_sound.proofs.Examples.Dispose.{ended, then}
use Rattle.cyp_sound.proofs.Examples.Lists.{lists_formed, lists_small}
use Rattle.cyp_sound.proofs.Keeping.{sound_from}
use Rattle.cyp_sound.specs.Kept.{IsKept}
use Rattle.cyp_step.specs.Step.{premises}
use Rattle.cyp_step.specs.declared.rule.CallBy.{CallBy}
use Rattle.cyp_step.specs.declared.rule.Rule.TheVariants.{ByCall, ByEmp, ByFrame, ByFree, ByOpen, ByRead, ByWrite}
use Rattle.cyp_term.specs.Entailment.{arrangement_fits, arrangements, class_literals, entailed, satisfiable}
use Rattle.cyp_term.specs.Integers.{all_cases, both, eliminate, eliminate_all, feasible, ints_fit, joined}
use Rattle.cyp_term.specs.Regions.{all_set_vars, all_terms, regions_fit}
use Rattle.cyp_term.specs.declared.lit.Lit.{Lit}
use Rattle.cyp_term.specs.declared.lit.Lit.TheVariants.{Eq, Lt, Ne, Same}
use Rattle.cyp_term.specs.declared.subst.SetBind.{SetBind}
use Rattle.cyp_term.specs.declared.term.Var.{Var}
use Rattle.cyp_tree.specs.Derivations.{Derived, More, NoMore}
use Rattle.std.proofs.Common.{[], refl, List, None, Some, ◌∷◌, ◌≡◌, ℕ}
use Rattle.std.specs.Fmt.{digits}
use Rattle.std.specs.Prelude.{codes}

-- ---- the nodes up to the companion

-- the cell's address is positive
abbrev known : List Lit
known = Lt (num 0) (X 0) ∷ []

abbrev root_node : Node
root_node = node lists (x 0 ∷ []) [] known (list_at (X 1) (S 0) (Some (k 0)) ∷ cell (X 0) (X 1) ∷ []) [] (cell (X 0) (num 0) ∷ [])

-- the cell's content has a name
abbrev read : Node
read = node lists (x 0 ∷ x 1 ∷ []) [] known (list_at (X 1) (S 0) (Some (k 0)) ∷ cell (X 0) (X 1) ∷ []) [] (cell (X 0) (num 0) ∷ [])

abbrev written : Node
written = node lists (x 0 ∷ x 1 ∷ []) [] known (list_at (X 1) (S 0) (Some (k 0)) ∷ cell (X 0) (num 0) ∷ []) [] (cell (X 0) (num 0) ∷ [])

-- the companion: the list alone
abbrev framed : Node
framed = node lists (x 0 ∷ x 1 ∷ []) [] known (list_at (X 1) (S 0) (Some (k 0)) ∷ []) [] []

-- ---- the nodes below it

-- the companion, where its list has this cardinality and these members
abbrev list_link : ℕ → List SetBind → Link
list_link card sets = record {
  goal = framed.goal;
  own = K 0 ∷ [];
  map = record { ints = record { var = x 0; to = X 0 } ∷ record { var = x 1; to = X 1 } ∷ record { var = k 0; to = K card } ∷ []; sets = sets };
  tuple = K card ∷ [];
}

abbrev nothing_left : Node
nothing_left = record (node lists (x 0 ∷ x 1 ∷ []) [] (Lt (num 0) (X 0) ∷ Eq (X 1) (num 0) ∷ []) [] [] []) { links = list_link 0 [] ∷ [] }

-- in a list that isn't empty, with these program variables, members and chunks
abbrev in_list : List Var → Lit → List Chunk → ℕ → Node
in_list program members chunks all = record (node lists program [] (Lt (num 0) (X 0) ∷ Ne (X 1) (num 0) ∷ members ∷ Lt (K 0) (K 1) ∷ Lt (num 0) (X 1) ∷ []) chunks [] []) {
  links = list_link 1 (record { var = s 0; to = S all } ∷ []) ∷ [];
}

-- the list's chunks with its first content and its rest
abbrev list_cells : ℕ → ℕ → List Chunk
list_cells content rest = list_tagged 1 (X rest) (S 0) (Some (k 0)) ∷ block (X 1) 2 ∷ cell (X 1) (X content) ∷ cell (X+ 1 1) (X rest) ∷ []

abbrev opened : Node
opened = in_list (x 0 ∷ x 1 ∷ []) (Same (S 1) (with_elem (X 3) 0)) (list_cells 3 2) 1

abbrev read_content : Node
read_content = in_list (x 0 ∷ x 1 ∷ x 2 ∷ []) (Same (S 1) (with_elem (X 2) 0)) (list_cells 2 3) 1

abbrev read_rest : Node
read_rest = in_list (x 0 ∷ x 1 ∷ x 2 ∷ x 3 ∷ []) (Same (S 1) (with_elem (X 2) 0)) (list_cells 2 3) 1

abbrev freed : Node
freed = in_list (x 0 ∷ x 1 ∷ x 2 ∷ x 3 ∷ []) (Same (S 1) (with_elem (X 2) 0)) (list_tagged 1 (X 3) (S 0) (Some (k 0)) ∷ []) 1

abbrev called : Node
called = in_list (x 0 ∷ x 1 ∷ x 2 ∷ []) (Same (S 0) (with_elem (X 2) 1)) [] 0

-- ---- the derivation

abbrev call_rest : CallBy
call_rest = record { link = 0; pairs = 0 ∷ [] }

abbrev disposing : Proof
disposing =
    Derived framed (ByOpen 0)
    (More (ended nothing_left ByEmp)
    (More (then opened (ByRead 2) (then read_content (ByRead 3) (then read_rest (ByFree 1) (then freed (ByCall call_rest) (ended called ByEmp))))) NoMore))

abbrev pub cleared : Proof
cleared = then root_node (ByRead 1) (then read (ByWrite 1) (then written (ByFrame 1) disposing))

-- ---- it is accepted at the root

root : normal (unlinked lists clear.goal) ≡ Some (record { node = root_node; old = x 0 ∷ [] })
unfolding joined eliminate eliminate_all feasible both all_cases ints_fit arrangements class_literals arrangement_fits satisfiable entailed regions_fit all_terms all_set_vars
root = refl

reads : premises root_node (ByRead 1) ≡ Some (read ∷ [])
unfolding joined eliminate eliminate_all feasible both all_cases ints_fit arrangements class_literals arrangement_fits satisfiable entailed regions_fit all_terms all_set_vars
reads = refl

writes : premises read (ByWrite 1) ≡ Some (written ∷ [])
unfolding joined eliminate eliminate_all feasible both all_cases ints_fit arrangements class_literals arrangement_fits satisfiable entailed regions_fit all_terms all_set_vars
writes = refl

frames : premises written (ByFrame 1) ≡ Some (framed ∷ [])
unfolding joined eliminate eliminate_all feasible both all_cases ints_fit arrangements class_literals arrangement_fits satisfiable entailed regions_fit all_terms all_set_vars
frames = refl

opens : premises framed (ByOpen 0) ≡ Some (nothing_left ∷ opened ∷ [])
unfolding joined eliminate eliminate_all feasible both all_cases ints_fit arrangements class_literals arrangement_fits satisfiable entailed regions_fit all_terms all_set_vars
opens = refl

nothing_ends : premises nothing_left ByEmp ≡ Some []
unfolding joined eliminate eliminate_all feasible both all_cases ints_fit arrangements class_literals arrangement_fits satisfiable entailed regions_fit all_terms all_set_vars
nothing_ends = refl

reads_content : premises opened (ByRead 2) ≡ Some (read_content ∷ [])
unfolding joined eliminate eliminate_all feasible both all_cases ints_fit arrangements class_literals arrangement_fits satisfiable entailed regions_fit all_terms all_set_vars
reads_content = refl

reads_rest : premises read_content (ByRead 3) ≡ Some (read_rest ∷ [])
unfolding joined eliminate eliminate_all feasible both all_cases ints_fit arrangements class_literals arrangement_fits satisfiable entailed regions_fit all_terms all_set_vars
reads_rest = refl

frees : premises read_rest (ByFree 1) ≡ Some (freed ∷ [])
unfolding joined eliminate eliminate_all feasible both all_cases ints_fit arrangements class_literals arrangement_fits satisfiable entailed regions_fit all_terms all_set_vars
frees = refl

calls_rest : premises freed (ByCall call_rest) ≡ Some (called ∷ [])
unfolding joined eliminate eliminate_all feasible both all_cases ints_fit arrangements class_literals arrangement_fits satisfiable entailed regions_fit all_terms all_set_vars
calls_rest = refl

call_ends : premises called ByEmp ≡ Some []
unfolding joined eliminate eliminate_all feasible both all_cases ints_fit arrangements class_literals arrangement_fits satisfiable entailed regions_fit all_terms all_set_vars
call_ends = refl

cleared_accepted : IsAccepted root_node cleared
cleared_accepted = (
  refl,
  refl,
  (
    reads,
    (
      (
        writes,
        (
          (
            frames,
            ((opens, ((nothing_ends, tt), ((reads_content, ((reads_rest, ((frees, ((calls_rest, ((call_ends, tt), tt)), tt)), tt)), tt)), tt))), tt),
          ),
          tt,
        ),
      ),
      tt,
    ),
  ),
)

-- the companion is called, so it has a procedure of its own
clear_text : program_text (program_of (codes "clear") cleared) ≡ codes "void clear(v1) {\n  let v2 = *v1;\n  *v1 = 0;\n  clear_1(v1, v2);\n}\nvoid clear_1(v1, v2) {\n  if (v2 == 0) {\n  } else {\n    let v3 = *v2;\n    let v4 = *(v2 + 1);\n    free(v2);\n    clear_1(v1, v4);\n  }\n}\n"
unfolding digits joined eliminate eliminate_all feasible both all_cases ints_fit arrangements class_literals arrangement_fits satisfiable entailed regions_fit all_terms all_set_vars
clear_text = refl

-- ---- the goal

clear_formed : IsFormed lists clear.goal
clear_formed = record {
  instances_fit = refl;
  program_int = refl;
  program_differs = refl;
  exist_differs = refl;
  exist_apart = refl;
  pre_cards = refl;
  post_cards = refl;
  cards_differ = refl;
  cards_alone = refl;
}

clear_kept : IsKept clear.goal
clear_kept = record { order = refl; fits = record { pure_pre = refl; pre = refl; pure_post = refl; post = refl }; post_small = refl }

-- ---- the law

-- the root opens nothing, so the derivation has no lead
pub clear_correct : (name : List ℕ) → IsCorrect (program_of name cleared) lists clear.goal None
clear_correct name = sound_from lists clear.goal cleared lists_formed lists_small clear_formed clear_kept name (record { node = root_node; old = x 0 ∷ [] }) root cleared_accepted
