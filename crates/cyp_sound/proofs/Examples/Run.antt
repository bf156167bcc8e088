-- A run of the program on the list of three nodes: after 19 steps it has ended, and by the law nothing is left of the heap.
use Rattle.cyp_heap.proofs.Short.{dispose, lists}
use Rattle.cyp_heap.specs.Stores.{Store, no_store}
use Rattle.cyp_kernel.specs.Correct.{MeetsPost}
use Rattle.cyp_machine.specs.Parts.{frame, state}
use Rattle.cyp_machine.specs.Runs.{Run}
use Rattle.cyp_machine.specs.States.{Frame, State, has_ended, start}
use Rattle.cyp_machine.specs.Steps.{addresses, followed_by, has_all, remove_all}
use Rattle.cyp_machine.specs.Values.{test_value}
use Rattle.cyp_prog.specs.Programs.{Body, Choosing, End, Giving, Invoking, Loading, Procedure, Then}
use Rattle.cyp_prog.specs.declared.stmt.Expr.{Expr}
use Rattle.cyp_prog.specs.declared.stmt.Test.{Test}
use Rattle.cyp_prog.specs.declared.stmt.TestSign.TheVariants.{Equal}
use Rattle.cyp_sound.proofs.Examples.Dispose.{dispose_correct, program, three_arguments}
use Rattle.cyp_sound.proofs.Examples.Lists.{begin, one_node, three_hold, three_nodes, two_nodes}
use Rattle.cyp_term.specs.Entailment.{arrangement_fits, arrangements, class_literals, entailed, satisfiable}
use Rattle.cyp_term.specs.Integers.{all_cases, both, eliminate, eliminate_all, feasible, ints_fit, joined}
use Rattle.cyp_term.specs.Regions.{all_set_vars, all_terms, regions_fit}
use Rattle.std.proofs.Common.{[], ap, cond, false, refl, subst, suc, sym, true, Bool, List, None, Option, Some, pos, ◌&&◌, ◌+ℤ◌, ◌∙◌, ◌∷◌, ◌≡◌, ℕ, ℤ}
use Rattle.std.specs.Cmp.{int_cmp_total}
use Rattle.std.specs.FinMap.{FinMap, empty, get, get-insert, get-remove, insert, remove}
use Rattle.std.specs.List.{list_all}
use Rattle.std.specs.Ordering.{eq_by_cmp, int_cmp}
use Rattle.std.specs.Prelude.{codes, is_some}

-- ---- the program, written out

abbrev variable : ℕ → Expr
variable n = record { var = Some n; offset = pos 0 }

abbrev is_null : Test
is_null = record { left = variable 1; sign = Equal; right = record { var = None; offset = pos 0 } }

abbrev calling : Body
calling = Then (Invoking 0 (variable 3 ∷ [])) End

abbrev freeing : Body
freeing = Then (Giving (variable 1)) calling

abbrev reading_rest : Body
reading_rest = Then (Loading 3 (record { var = Some 1; offset = pos 1 })) freeing

abbrev reading : Body
reading = Then (Loading 2 (variable 1)) reading_rest

abbrev dispose_body : Body
dispose_body = Then (Choosing is_null End reading) End

abbrev written_out : List Procedure
written_out = record { name = codes "dispose"; params = 1; body = dispose_body } ∷ []

program_is : program ≡ written_out
unfolding joined eliminate eliminate_all feasible both all_cases ints_fit arrangements class_literals arrangement_fits satisfiable entailed regions_fit all_terms all_set_vars
program_is = refl

-- ---- one node: the test, two reads, the deallocation and the call

module _ (a c n : ℤ) (h : Store) (below : List Frame) where
  abbrev caller : Frame
  caller = frame ((3, n) ∷ (2, c) ∷ (1, a) ∷ []) End

  abbrev without_node : Store
  without_node = record { cells = remove_all h.cells (addresses (a +ℤ pos 0) 2); blocks = remove h.blocks (a +ℤ pos 0) }

  node_run : test_value ((1, a) ∷ []) is_null ≡ false → get h.cells (a +ℤ pos 0) ≡ Some c → get h.cells (a +ℤ pos 1) ≡ Some n → get h.blocks (a +ℤ pos 0) ≡ Some 2
      → has_all h.cells (addresses (a +ℤ pos 0) 2) ≡ true → (m : ℕ) (t : State) → Run written_out m (state without_node (frame ((1, n +ℤ pos 0) ∷ []) dispose_body ∷ caller ∷ below)) t
      → Run written_out (suc (suc (suc (suc (suc m))))) (state h (frame ((1, a) ∷ []) dispose_body ∷ below)) t
  node_run test content next block cells m t run = (
    state h (frame ((1, a) ∷ []) reading ∷ below),
    ap (λ (b : Bool). state h (frame ((1, a) ∷ []) (followed_by (cond b End reading) End) ∷ below)) (sym test),
    (
      state h (frame ((2, c) ∷ (1, a) ∷ []) reading_rest ∷ below),
      (c, content, refl),
      (
        state h (frame ((3, n) ∷ (2, c) ∷ (1, a) ∷ []) freeing ∷ below),
        (n, next, refl),
        (
          state without_node (frame ((3, n) ∷ (2, c) ∷ (1, a) ∷ []) calling ∷ below),
          (2, block, cells, refl),
          (state without_node (frame ((1, n +ℤ pos 0) ∷ []) dispose_body ∷ caller ∷ below), (record { name = codes "dispose"; params = 1; body = dispose_body }, refl, refl), run),
        ),
      ),
    ),
  )

-- ---- what is in the heap

module _ {A : Type 0} (m : FinMap int_cmp A) (a b z : ℤ) where
  past_removed : eq_by_cmp int_cmp z a ≡ false → eq_by_cmp int_cmp z b ≡ false → get (remove (remove m b) a) z ≡ get m z
  past_removed p q =
      get-remove int_cmp_total (remove m b) a z ∙ ap (λ (t : Bool). cond t None (get (remove m b) z)) p
      ∙ get-remove int_cmp_total m b z ∙ ap (λ (t : Bool). cond t None (get m z)) q

  past_inserted : (v w : A) → eq_by_cmp int_cmp z a ≡ false → eq_by_cmp int_cmp z b ≡ false → get (insert (insert m b w) a v) z ≡ get m z
  past_inserted v w p q =
      get-insert int_cmp_total (insert m b w) a v z ∙ ap (λ (t : Bool). cond t (Some v) (get (insert m b w) z)) p
      ∙ get-insert int_cmp_total m b w z ∙ ap (λ (t : Bool). cond t (Some w) (get m z)) q

both_there : (m : FinMap int_cmp ℤ) (a b v w : ℤ) → get m a ≡ Some v → get m b ≡ Some w → list_all (λ z. is_some (get m z)) (a ∷ b ∷ []) ≡ true
both_there m a b v w e f = ap (λ (o : Option ℤ). is_some o && (is_some (get m b) && true)) e ∙ ap (λ (o : Option ℤ). is_some o && true) f

-- the heap without the first node, without the second, and without the third
abbrev left_two : Store
left_two = without_node (pos 10) (pos 5) (pos 30) three_nodes []

abbrev left_one : Store
left_one = without_node (pos 30) (pos 6) (pos 50) left_two []

abbrev left : Store
left = without_node (pos 50) (pos 7) (pos 0) left_one []

at_10 : get three_nodes.cells (pos 10) ≡ Some (pos 5)
at_10 = get-insert int_cmp_total (insert two_nodes.cells (pos 11) (pos 30)) (pos 10) (pos 5) (pos 10)

at_11 : get three_nodes.cells (pos 11) ≡ Some (pos 30)
at_11 = get-insert int_cmp_total (insert two_nodes.cells (pos 11) (pos 30)) (pos 10) (pos 5) (pos 11) ∙ get-insert int_cmp_total two_nodes.cells (pos 11) (pos 30) (pos 11)

past_first : (z : ℤ) → eq_by_cmp int_cmp z (pos 10) ≡ false → eq_by_cmp int_cmp z (pos 11) ≡ false → get left_two.cells z ≡ get two_nodes.cells z
past_first z p q = past_removed three_nodes.cells (pos 10) (pos 11) z p q ∙ past_inserted two_nodes.cells (pos 10) (pos 11) z (pos 5) (pos 30) p q

at_30 : get left_two.cells (pos 30) ≡ Some (pos 6)
at_30 = past_first (pos 30) refl refl ∙ get-insert int_cmp_total (insert one_node.cells (pos 31) (pos 50)) (pos 30) (pos 6) (pos 30)

at_31 : get left_two.cells (pos 31) ≡ Some (pos 50)
at_31 = past_first (pos 31) refl refl ∙ get-insert int_cmp_total (insert one_node.cells (pos 31) (pos 50)) (pos 30) (pos 6) (pos 31) ∙ get-insert int_cmp_total one_node.cells (pos 31) (pos 50) (pos 31)

past_second : (z : ℤ) → eq_by_cmp int_cmp z (pos 10) ≡ false → eq_by_cmp int_cmp z (pos 11) ≡ false → eq_by_cmp int_cmp z (pos 30) ≡ false → eq_by_cmp int_cmp z (pos 31) ≡ false
    → get left_one.cells z ≡ get one_node.cells z
past_second z p q r t = past_removed left_two.cells (pos 30) (pos 31) z r t ∙ past_first z p q ∙ past_inserted one_node.cells (pos 30) (pos 31) z (pos 6) (pos 50) r t

at_50 : get left_one.cells (pos 50) ≡ Some (pos 7)
at_50 = past_second (pos 50) refl refl refl refl ∙ get-insert int_cmp_total (insert empty (pos 51) (pos 0)) (pos 50) (pos 7) (pos 50)

at_51 : get left_one.cells (pos 51) ≡ Some (pos 0)
at_51 = past_second (pos 51) refl refl refl refl ∙ get-insert int_cmp_total (insert empty (pos 51) (pos 0)) (pos 50) (pos 7) (pos 51) ∙ get-insert int_cmp_total empty (pos 51) (pos 0) (pos 51)

block_10 : get three_nodes.blocks (pos 10) ≡ Some 2
block_10 = get-insert int_cmp_total two_nodes.blocks (pos 10) 2 (pos 10)

block_30 : get left_two.blocks (pos 30) ≡ Some 2
block_30 = get-remove int_cmp_total three_nodes.blocks (pos 10) (pos 30) ∙ get-insert int_cmp_total two_nodes.blocks (pos 10) 2 (pos 30) ∙ get-insert int_cmp_total one_node.blocks (pos 30) 2 (pos 30)

block_50 : get left_one.blocks (pos 50) ≡ Some 2
block_50 =
    get-remove int_cmp_total left_two.blocks (pos 30) (pos 50) ∙ get-remove int_cmp_total three_nodes.blocks (pos 10) (pos 50)
    ∙ get-insert int_cmp_total two_nodes.blocks (pos 10) 2 (pos 50) ∙ get-insert int_cmp_total one_node.blocks (pos 30) 2 (pos 50) ∙ get-insert int_cmp_total empty (pos 50) 2 (pos 50)

-- ---- the run

abbrev first_caller : Frame
first_caller = caller (pos 10) (pos 5) (pos 30) three_nodes []

abbrev second_caller : Frame
second_caller = caller (pos 30) (pos 6) (pos 50) left_two []

abbrev third_caller : Frame
third_caller = caller (pos 50) (pos 7) (pos 0) left_one []

abbrev ended : State
ended = state left (first_caller ∷ [])

-- at the empty rest: the test, and three returns
last_steps : Run written_out 4 (state left (frame ((1, pos 0) ∷ []) dispose_body ∷ third_caller ∷ second_caller ∷ first_caller ∷ [])) ended
last_steps = (
  state left (frame ((1, pos 0) ∷ []) End ∷ third_caller ∷ second_caller ∷ first_caller ∷ []),
  refl,
  (state left (third_caller ∷ second_caller ∷ first_caller ∷ []), refl, (state left (second_caller ∷ first_caller ∷ []), refl, (ended, refl, refl))),
)

three_run : Run written_out 19 (state three_nodes (frame ((1, pos 10) ∷ []) dispose_body ∷ [])) ended
three_run =
    node_run (pos 10) (pos 5) (pos 30) three_nodes [] refl at_10 at_11 block_10 (both_there three_nodes.cells (pos 10) (pos 11) (pos 5) (pos 30) at_10 at_11) 14 ended
    (node_run (pos 30) (pos 6) (pos 50) left_two (first_caller ∷ []) refl at_30 at_31 block_30 (both_there left_two.cells (pos 30) (pos 31) (pos 6) (pos 50) at_30 at_31) 9 ended
    (node_run (pos 50) (pos 7) (pos 0) left_one (second_caller ∷ first_caller ∷ []) refl at_50 at_51 block_50 (both_there left_one.cells (pos 50) (pos 51) (pos 7) (pos 0) at_50 at_51) 4 ended last_steps))

has_come_to_its_end : has_ended ended ≡ true
has_come_to_its_end = refl

-- the law says of its end that the postcondition holds, which is of the empty heap alone
nothing_is_left : left ≡ no_store
nothing_is_left =
    let run : Run program 19 (start program 0 (pos 10 ∷ []) three_nodes) ended = subst (λ (ps : List Procedure). Run ps 19 (start ps 0 (pos 10 ∷ []) three_nodes) ended) (sym program_is) three_run in
    let right =
    dispose_correct (codes "dispose") begin three_nodes (3 ∷ []) three_hold 19 ended (subst (λ (zs : List ℤ). Run program 19 (start program 0 zs three_nodes) ended) (sym three_arguments) run) in
    let met : MeetsPost lists dispose.goal begin left = right.meets_post refl in
    met.3.1.0
