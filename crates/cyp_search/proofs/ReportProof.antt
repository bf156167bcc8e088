-- The computed report, stage by stage, and that it is the one of the least stage that ends the search.
use Rattle.std.proofs.Common.{◌≡◌, refl, sym, ◌∙◌, ℕ, zero, suc, ◌+◌, ◌<◌, ◌≤◌, ◌==◌, Bool, true, false, inl, inr, Option, Some, None, nat_le, arith, subst}
use Rattle.std.proofs.lemmas.Bool.{cases_lt, le-leb, lt-leb, leb-true, leb-false, eq-eqb, ne_eqb}
use Rattle.cyp_tree.specs.declared.mark.Mark.{Mark}
use Rattle.cyp_tree.specs.declared.mark.Mark.TheVariants.{Undecided, Solved, Failed}
use Rattle.cyp_tree.specs.Trees.{Tree, Moving}
use Rattle.cyp_tree.specs.Statuses.{status}
use Rattle.cyp_tree.specs.Sizes.{size}
use Rattle.cyp_tree.specs.Derivations.{Derivation, chosen_derivation}
use Rattle.cyp_tree.specs.Growing.{expand_next}
use Rattle.cyp_search.specs.Stages.{stage}
use Rattle.cyp_search.specs.Reports.{report, report_at, report_from, verdict_at, ending_by, ending, IsReport}

module _ {R N : Type 0} (space : Moving R N) (limit : ℕ) where
  -- from a tree with this status on, whose next one fits or not
  step_by : (left k : ℕ) (t : Tree R N) (s : Mark) (fits : Bool) → status t ≡ s → nat_le (size (expand_next space t)) limit ≡ fits
      → report_from space limit (suc left) k t ≡ elim s [
        | Solved ↦ report_at k t
        | Failed ↦ report_at k t
        | Undecided ↦ elim fits [ false ↦ report_at k t | true ↦ report_from space limit left (suc k) (expand_next space t) ]
      ]
  step_by left k t s fits e f i = elim (e i) [
    | Solved ↦ report_at k t
    | Failed ↦ report_at k t
    | Undecided ↦ elim (f i) [ false ↦ report_at k t | true ↦ report_from space limit left (suc k) (expand_next space t) ]
  ]

  -- an open tree with room for its next one hands on
  pub report-grown : (left k : ℕ) (t : Tree R N) → status t ≡ Undecided → size (expand_next space t) ≤ limit
      → report_from space limit (suc left) k t ≡ report_from space limit left (suc k) (expand_next space t)
  report-grown left k t e h = step_by left k t Undecided true e (le-leb (size (expand_next space t)) limit h)

  ended_by : (left k : ℕ) (t : Tree R N) (s : Mark) → status t ≡ s → (s ≡ Undecided → limit < size (expand_next space t)) → report_from space limit (suc left) k t ≡ report_at k t
  ended_by left k t Solved e h = step_by left k t Solved (nat_le (size (expand_next space t)) limit) e refl
  ended_by left k t Failed e h = step_by left k t Failed (nat_le (size (expand_next space t)) limit) e refl
  ended_by left k t Undecided e h = step_by left k t Undecided false e (lt-leb (size (expand_next space t)) limit (h refl))

  -- any other tree ends the search
  pub report-ended : (left k : ℕ) (t : Tree R N) → (status t ≡ Undecided → limit < size (expand_next space t)) → report_from space limit left k t ≡ report_at k t
  report-ended zero k t h = refl
  report-ended (suc left) k t h = ended_by left k t (status t) refl h

-- a stage that isn't open or has no room for its next one ends the search, and so does the budget
end_by : {R N : Type 0} (s : Mark) (spent fits : Bool) (d : Option (Derivation R N)) → (s ≡ Undecided → spent ≡ false → fits ≡ false)
    → ending_by s spent fits d ≡ Some (verdict_at s d)
end_by Solved spent fits d h = refl
end_by Failed spent fits d h = refl
end_by Undecided true fits d h = refl
end_by Undecided false false d h = refl
end_by Undecided false true d h = let bad : true ≡ false = h refl refl in cc

module _ {R N : Type 0} (space : Moving R N) (budget limit : ℕ) (root : N) where
  abbrev at : ℕ → Tree R N
  at k = stage space root k

  abbrev fits : ℕ → Bool
  fits k = nat_le (size (at (suc k))) limit

  abbrev NoneBelow : ℕ → Type 0
  NoneBelow k = (j : ℕ) → j < k → ending space budget limit root j ≡ None

  -- the report of a stage that ends the search
  ends : (k : ℕ) → ending space budget limit root k ≡ Some (verdict_at (status (at k)) (chosen_derivation (at k))) → NoneBelow k → IsReport space budget limit root (report_at k (at k))
  ends k e below = (k, verdict_at (status (at k)) (chosen_derivation (at k)), e, below, refl)

  one_more : (k : ℕ) → NoneBelow k → ending space budget limit root k ≡ None → NoneBelow (suc k)
  one_more k below e j h = elim (cases_lt j k) [
    | inl l ↦ below j l
    | inr l ↦ subst (λ (n : ℕ). ending space budget limit root n ≡ None) (let same : k ≡ j = omega arith in same) e
  ]

  before_budget : (k left : ℕ) → k + suc left ≡ budget → (k == budget) ≡ false
  before_budget k left e = ne_eqb k budget (λ same. omega arith)

  -- a decided stage
  over : (left k : ℕ) → NoneBelow k → (status (at k) ≡ Undecided → ⊥) → IsReport space budget limit root (report_from space limit (suc left) k (at k))
  over left k below h =
      subst (IsReport space budget limit root) (sym (report-ended space limit (suc left) k (at k) (λ o. absurd (h o))))
      (ends k (end_by (status (at k)) (k == budget) (fits k) (chosen_derivation (at k)) (λ o u. absurd (h o))) below)

  -- a stage before the budget, where the stages after it have the report
  here : (left k : ℕ) → k + suc left ≡ budget → NoneBelow k → (NoneBelow (suc k) → IsReport space budget limit root (report_from space limit left (suc k) (at (suc k))))
      → (s : Mark) (b : Bool) → status (at k) ≡ s → fits k ≡ b → IsReport space budget limit root (report_from space limit (suc left) k (at k))
  here left k e below go Undecided true p q =
      subst (IsReport space budget limit root) (sym (report-grown space limit left k (at k) p (leb-true (size (at (suc k))) limit q)))
      (go (one_more k below (λ i. ending_by (p i) (before_budget k left e i) (q i) (chosen_derivation (at k)))))
  here left k e below go Undecided false p q =
      subst (IsReport space budget limit root) (sym (report-ended space limit (suc left) k (at k) (λ o. leb-false (size (at (suc k))) limit q)))
      (ends k (end_by (status (at k)) (k == budget) (fits k) (chosen_derivation (at k)) (λ o u. q)) below)
  here left k e below go Solved b p q = over left k below (λ o. let bad : Solved ≡ Undecided = sym p ∙ o in cc)
  here left k e below go Failed b p q = over left k below (λ o. let bad : Failed ≡ Undecided = sym p ∙ o in cc)

  from_here : (left k : ℕ) → k + left ≡ budget → NoneBelow k → IsReport space budget limit root (report_from space limit left k (at k))
  from_here zero k e below =
      ends k (end_by (status (at k)) (k == budget) (fits k) (chosen_derivation (at k)) (λ o u. let bad : true ≡ false = sym (eq-eqb k budget (omega arith)) ∙ u in cc)) below
  from_here (suc left) k e below = here left k e below (λ b. from_here left (suc k) (omega arith) b) (status (at k)) (fits k) refl refl

  -- the computed report is the one that the definition by least stages asks for
  pub report_law : IsReport space budget limit root (report space budget limit root)
  report_law = from_here budget 0 (omega arith) (λ j h. absurd (omega arith))
