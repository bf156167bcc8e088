-- A search has one report: two least stages that end it are the same stage.
use Rattle.std.proofs.Common.{◌≡◌, sym, ◌∙◌, ap, ℕ, ◌<◌, inl, inr, Option, Some, None, arith}
use Rattle.std.proofs.lemmas.Bool.{cases_lt}
use Rattle.std.proofs.lemmas.Option.{same_Some}
use Rattle.cyp_tree.specs.Trees.{Moving}
use Rattle.cyp_search.specs.Stages.{stage}
use Rattle.cyp_search.specs.Reports.{PlainVerdict, PlainReport, ending, report_of, IsReport}

module _ {R N : Type 0} (space : Moving R N) (budget limit : ℕ) (root : N) where
  abbrev end_at : ℕ → Option (PlainVerdict R N)
  end_at k = ending space budget limit root k

  -- no stage before one without an ending before it ends the search
  apart : (a b : ℕ) (v : PlainVerdict R N) → end_at a ≡ Some v → ((j : ℕ) → j < b → end_at j ≡ None) → a < b → ⊥
  apart a b v e below h = let none : end_at a ≡ None = below a h in cc

  one_stage : (k m : ℕ) (v w : PlainVerdict R N) → end_at k ≡ Some v → ((j : ℕ) → j < k → end_at j ≡ None) → end_at m ≡ Some w → ((j : ℕ) → j < m → end_at j ≡ None)
      → k ≡ m
  one_stage k m v w e below f under = elim (cases_lt k m) [
    | inl l ↦ absurd (apart k m v e under l)
    | inr g ↦ elim (cases_lt m k) [ inl l ↦ absurd (apart m k w f below l) | inr l ↦ omega arith ]
  ]

  pub one_report : (r s : PlainReport R N) → IsReport space budget limit root r → IsReport space budget limit root s → r ≡ s
  one_report r s (k, v, e, below, q) (m, w, f, under, p) = q ∙ (λ i. report_of (the_verdict i) (the_stage i) (stage space root (the_stage i))) ∙ sym p
    where
      the_stage : k ≡ m
      the_stage = one_stage k m v w e below f under

      the_verdict : v ≡ w
      the_verdict = same_Some v w (sym e ∙ ap end_at the_stage ∙ f)
