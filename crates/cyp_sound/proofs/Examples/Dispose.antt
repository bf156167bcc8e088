-- The law at the whole derivation by which a list is freed: `void dispose(loc x) { sll(x, s) } { emp }`.
use Rattle.cyp_goal.specs.Normal.{normal}
use Rattle.cyp_heap.proofs.Short.{dispose, lists, x}
use Rattle.cyp_heap.specs.Formed.{IsFormed}
use Rattle.cyp_heap.specs.Stores.{cell_count}
use Rattle.cyp_heap.specs.declared.goal.Node.{Node}
use Rattle.cyp_kernel.specs.Accepted.{IsAccepted}
use Rattle.cyp_kernel.specs.Bound.{bound, longest, measure, step_bound}
use Rattle.cyp_kernel.specs.Companions.{Proof}
use Rattle.cyp_kernel.specs.Compile.{program_of}
use Rattle.cyp_kernel.specs.Correct.{IsCorrect, kept_params, unlinked}
use Rattle.cyp_machine.specs.Runs.{Run}
use Rattle.cyp_machine.specs.States.{State, start}
use Rattle.cyp_prog.specs.Programs.{Procedure}
use Rattle.cyp_sound.proofs.Examples.Lists.{begin, lists_formed, lists_small, three_count, three_hold, three_nodes}
use Rattle.cyp_sound.proofs.Keeping.{sound_from}
use Rattle.cyp_sound.specs.Kept.{IsKept}
use Rattle.cyp_step.proofs.ExamplesDispose.{call_rest, called, cons_node, freed, nil_node, read_once, read_twice}
use Rattle.cyp_step.specs.Step.{premises}
use Rattle.cyp_step.specs.declared.rule.Rule.{Rule}
use Rattle.cyp_step.specs.declared.rule.Rule.TheVariants.{ByCall, ByEmp, ByFree, ByOpen, ByRead}
use Rattle.cyp_term.specs.Entailment.{arrangement_fits, arrangements, class_literals, entailed, satisfiable}
use Rattle.cyp_term.specs.Integers.{all_cases, both, eliminate, eliminate_all, feasible, ints_fit, joined}
use Rattle.cyp_term.specs.Regions.{all_set_vars, all_terms, regions_fit}
use Rattle.cyp_tree.specs.Derivations.{Derived, More, NoMore}
use Rattle.std.proofs.Common.{[], refl, replicate, subst, sym, List, Some, map, pos, suc, ◌++◌, ◌∷◌, ◌≡◌, ◌≤◌, ℕ, ℤ}
use Rattle.std.specs.Prelude.{codes}

-- the rule at the node, and what comes after it, with one premise
abbrev pub then : Node → Rule → Proof → Proof
then n r d = Derived n r (More d NoMore)

-- the rule at the node without premises
abbrev pub ended : Node → Rule → Proof
ended n r = Derived n r NoMore

-- ---- the derivation

abbrev pub disposed : Proof
disposed =
    Derived dispose (ByOpen 0)
    (More (ended nil_node ByEmp)
    (More (then cons_node (ByRead 2) (then read_once (ByRead 3) (then read_twice (ByFree 1) (then freed (ByCall call_rest) (ended called ByEmp))))) NoMore))

-- ---- it is accepted at the root

root : normal (unlinked lists dispose.goal) ≡ Some (record { node = dispose; old = x 0 ∷ [] })
unfolding joined eliminate eliminate_all feasible both all_cases ints_fit arrangements class_literals arrangement_fits satisfiable entailed regions_fit all_terms all_set_vars
root = refl

opens : premises dispose (ByOpen 0) ≡ Some (nil_node ∷ cons_node ∷ [])
unfolding joined eliminate eliminate_all feasible both all_cases ints_fit arrangements class_literals arrangement_fits satisfiable entailed regions_fit all_terms all_set_vars
opens = refl

nil_ends : premises nil_node ByEmp ≡ Some []
unfolding joined eliminate eliminate_all feasible both all_cases ints_fit arrangements class_literals arrangement_fits satisfiable entailed regions_fit all_terms all_set_vars
nil_ends = refl

reads_content : premises cons_node (ByRead 2) ≡ Some (read_once ∷ [])
unfolding joined eliminate eliminate_all feasible both all_cases ints_fit arrangements class_literals arrangement_fits satisfiable entailed regions_fit all_terms all_set_vars
reads_content = refl

reads_rest : premises read_once (ByRead 3) ≡ Some (read_twice ∷ [])
unfolding joined eliminate eliminate_all feasible both all_cases ints_fit arrangements class_literals arrangement_fits satisfiable entailed regions_fit all_terms all_set_vars
reads_rest = refl

frees : premises read_twice (ByFree 1) ≡ Some (freed ∷ [])
unfolding joined eliminate eliminate_all feasible both all_cases ints_fit arrangements class_literals arrangement_fits satisfiable entailed regions_fit all_terms all_set_vars
frees = refl

calls_rest : premises freed (ByCall call_rest) ≡ Some (called ∷ [])
unfolding joined eliminate eliminate_all feasible both all_cases ints_fit arrangements class_literals arrangement_fits satisfiable entailed regions_fit all_terms all_set_vars
calls_rest = refl

call_ends : premises called ByEmp ≡ Some []
unfolding joined eliminate eliminate_all feasible both all_cases ints_fit arrangements class_literals arrangement_fits satisfiable entailed regions_fit all_terms all_set_vars
call_ends = refl

disposed_accepted : IsAccepted dispose disposed
disposed_accepted = (
  refl,
  refl,
  (opens, ((nil_ends, tt), ((reads_content, ((reads_rest, ((frees, ((calls_rest, ((call_ends, tt), tt)), tt)), tt)), tt)), tt))),
)

-- ---- the goal

dispose_formed : IsFormed lists dispose.goal
dispose_formed = record {
  instances_fit = refl;
  program_int = refl;
  program_differs = refl;
  exist_differs = refl;
  exist_apart = refl;
  pre_cards = refl;
  post_cards = refl;
  cards_differ = refl;
  cards_alone = refl;
}

dispose_kept : IsKept dispose.goal
dispose_kept = record { order = refl; fits = record { pure_pre = refl; pre = refl; pure_post = refl; post = refl }; post_small = refl }

-- ---- the law

pub dispose_correct : (name : List ℕ) → IsCorrect (program_of name disposed) lists dispose.goal (Some 0)
dispose_correct name = sound_from lists dispose.goal disposed lists_formed lists_small dispose_formed dispose_kept name (record { node = dispose; old = x 0 ∷ [] }) root disposed_accepted

-- ---- the bound at a list of three nodes

abbrev pub program : List Procedure
program = program_of (codes "dispose") disposed

-- a test, two reads, a deallocation and a call
dispose_longest : longest program ≡ 5
unfolding joined eliminate eliminate_all feasible both all_cases ints_fit arrangements class_literals arrangement_fits satisfiable entailed regions_fit all_terms all_set_vars
dispose_longest = refl

-- the list's height is three; it is the only companion, and one more may be opened in it
three_measure : measure (Some 0) (3 ∷ []) ≡ 0 ∷ 3 ∷ replicate 15 0 ++ 1 ∷ replicate 50 0
three_measure = refl

-- the program variable that the normal form keeps is the list's address
pub three_arguments : map begin.number (kept_params lists dispose.goal) ≡ pos 10 ∷ []
unfolding joined eliminate eliminate_all feasible both all_cases ints_fit arrangements class_literals arrangement_fits satisfiable entailed regions_fit all_terms all_set_vars
three_arguments = refl

-- the bound where the length of the longest body, the measure and the number of cells are told
bound_at : (ps : List Procedure) (steps c d n : ℕ) (m k : List ℕ) → longest ps ≡ steps → m ≡ k → c ≡ d → n ≤ step_bound ps m (suc c) → n ≤ bound (suc steps) k (suc d)
bound_at ps steps c d n m k e f g l =
    subst (λ (y : ℕ). n ≤ bound (suc steps) k (suc y)) g (subst (λ (w : List ℕ). n ≤ bound (suc steps) w (suc c)) f (subst (λ (x : ℕ). n ≤ bound (suc x) m (suc c)) e l))

-- each run of the program on a list of three nodes has at most so many steps
pub three_in_time : (n : ℕ) (t : State) → Run program n (start program 0 (pos 10 ∷ []) three_nodes) t → n ≤ bound (suc 5) (0 ∷ 3 ∷ replicate 15 0 ++ 1 ∷ replicate 50 0) (suc 6)
three_in_time n t run =
    bound_at program 5 (cell_count three_nodes) 6 n (measure (Some 0) (3 ∷ [])) (0 ∷ 3 ∷ replicate 15 0 ++ 1 ∷ replicate 50 0) dispose_longest three_measure three_count
    (dispose_correct (codes "dispose") begin three_nodes (3 ∷ []) three_hold n t (subst (λ (zs : List ℤ). Run program n (start program 0 zs three_nodes) t) (sym three_arguments) run)).in_time

-- in measures of one place the bound at three has few digits
three_in_one_place : bound 6 (3 ∷ []) 7 ≡ 11929
three_in_one_place = refl
