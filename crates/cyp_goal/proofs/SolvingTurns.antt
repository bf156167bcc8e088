-- One turn of solving, by the literal that is solved.
use Rattle.std.proofs.Common.{◌≡◌, ◌∙◌, ◌||◌, ℕ, suc, zero, ◌+◌, ◌-◌, ◌<◌, List, None, Ok, Err, Option, Result, Some, true, ap, sym, subst, IfSome, slice_get, arith}
use Rattle.std.specs.List.{remove}
use Rattle.std.specs.Option.{option_and_then}
use Rattle.std.proofs.lemmas.Bool.{cond-true}
use Rattle.std.proofs.lemmas.Option.{same_Some}
use Rattle.cyp_goal.proofs.RenameSolve.{turn}
use Rattle.cyp_goal.specs.SolvedSides.{FirstBy, IsFirst, side_answer}
use Rattle.cyp_goal.specs.Solving.{first_solved, substitute}
use Rattle.cyp_term.specs.Terms.{wide_subst}
use Rattle.cyp_goal.specs.Turns.{Turned}
use Rattle.cyp_goal.specs.declared.equations.Side.{Side}
use Rattle.cyp_heap.specs.Goals.{apply_node, wide_node}
use Rattle.cyp_heap.specs.declared.goal.Node.{Node}
use Rattle.cyp_term.specs.Answers.{GivesWhere}
use Rattle.cyp_term.specs.declared.fail.Fail.{Fail}
use Rattle.cyp_term.specs.declared.fail.Fail.TheVariants.{Named, NoMemory}
use Rattle.cyp_term.specs.declared.lit.Lit.{Lit}
use Rattle.cyp_term.specs.declared.subst.Subst.{Subst}

-- a substitution with an offset past its range can't be made
wide_none : (by : Subst) (n : Node) → wide_subst by ≡ true → substitute by n ≡ None
wide_none by n e = cond-true (wide_subst by || wide_node (apply_node by n)) None (Some (apply_node by n)) (ap (λ b. b || wide_node (apply_node by n)) e)

module _ (solve : ℕ → Node → Option Node) (put : Node → List Lit → Node) (f : Lit → Option Subst) (lits : List Lit) (n : Node)
    (step : (k : ℕ) → solve (suc k) n ≡ turn (solve k) put n (first_solved f lits)) where
  -- where none can be solved the node stays
  module _ (none : first_solved f lits ≡ None) (start : solve 0 n ≡ Some n) where
    pub stays : (k : ℕ) → solve k n ≡ Some n
    stays zero = start
    stays (suc k) = step k ∙ ap (turn (solve k) put n) none

  module _ (place : ℕ) (side : Side) (is : IsFirst f lits place side) (lit : Lit) (there : slice_get lits place ≡ Some lit) where
    answer_here : side_answer side lit ≡ Some is.by
    answer_here = ap (side_answer side) (same_Some lit is.lit (sym there ∙ is.there)) ∙ is.answer

    taken : (k : ℕ) → solve (suc k) n ≡ option_and_then (solve k) (substitute is.by (put n (remove lits place)))
    taken k = step k ∙ ap (turn (solve k) put n) is.first

    -- by the substitution that the literal gives
    module _ (by : Subst) (gives : side_answer side lit ≡ Some by) where
      taken_by : (k : ℕ) → solve (suc k) n ≡ option_and_then (solve k) (substitute by (put n (remove lits place)))
      taken_by k = taken k ∙ ap (λ (s : Subst). option_and_then (solve k) (substitute s (put n (remove lits place)))) (same_Some is.by by (sym answer_here ∙ gives))

      turn_done : (m : Node) → substitute by (put n (remove lits place)) ≡ Some m → (k : ℕ) → solve (suc k) n ≡ solve k m
      turn_done m e k = taken_by k ∙ ap (option_and_then (solve k)) e

      turn_wide : substitute by (put n (remove lits place)) ≡ None → (k : ℕ) → solve (suc k) n ≡ None
      turn_wide e k = taken_by k ∙ ap (option_and_then (solve k)) e

      pub turn_given : {E : Type 0} (r : Result Node (Fail E)) → GivesWhere (substitute by (put n (remove lits place))) r → Turned solve n r
      turn_given (Ok m) e = turn_done m e
      turn_given (Err (Named e)) h = turn_wide h
      turn_given (Err NoMemory) h = tt

    pub answer_wide : IfSome (side_answer side lit) (λ by. wide_subst by ≡ true) → (k : ℕ) → solve (suc k) n ≡ None
    answer_wide w k =
        let wide : wide_subst is.by ≡ true = subst (λ (o : Option Subst). IfSome o (λ by. wide_subst by ≡ true)) answer_here w in
        taken k ∙ ap (option_and_then (solve k)) (wide_none is.by (put n (remove lits place)) wide)

-- what is found doesn't depend on how the test is written
pub first_by_same : (f g : Lit → Option Subst) (ls ms : List Lit) (r : Option (ℕ × Side)) → f ≡ g → ls ≡ ms → FirstBy f ls r → FirstBy g ms r
first_by_same f g ls ms r e h k =
    subst (λ (ks : List Lit). FirstBy g ks r) h (subst (λ (x : Lit → Option Subst). FirstBy x ls r) e k)

-- ---- all turns
module _ (solve : ℕ → Node → Option Node) (n d : Node) (turns i : ℕ) (so_far : solve (turns - i) d ≡ solve turns n) (more : i < turns) where
  one_less : turns - i ≡ suc (turns - (i + 1))
  one_less = omega arith

  turned_so_far : (r : Option Node) → ((k : ℕ) → solve (suc k) d ≡ r) → solve turns n ≡ r
  turned_so_far r h = sym so_far ∙ ap (λ k. solve k d) one_less ∙ h (turns - (i + 1))

  pub turns_fail : {E : Type 0} (fail : Fail E) → Turned solve d (Err fail) → GivesWhere (solve turns n) (Err fail)
  turns_fail (Named e) h = turned_so_far None h
  turns_fail NoMemory h = tt

  pub turns_go_on : (m : Node) → ((k : ℕ) → solve (suc k) d ≡ solve k m) → solve (turns - (i + 1)) m ≡ solve turns n
  turns_go_on m h = sym (h (turns - (i + 1))) ∙ ap (λ k. solve k d) (sym one_less) ∙ so_far
