-- How the statuses of ways and nodes follow from counters, and how they change with one status.
use Rattle.std.proofs.Common.{◌≡◌, refl, ◌∙◌, ap, subst, ℕ, zero, suc, ◌+◌, ◌≤◌, ◌<◌, ◌⊎◌, inl, inr, List, [], ◌∷◌, Some, arith}
use Rattle.std.specs.List.{slice_get}
use Rattle.std.proofs.lemmas.Bool.{cases_eq}
use Rattle.cyp_tree.specs.declared.mark.Mark.{Mark}
use Rattle.cyp_tree.specs.declared.mark.Mark.TheVariants.{Undecided, Solved, Failed}
use Rattle.cyp_tree.specs.declared.places.Way.{Way}
use Rattle.cyp_tree.specs.Statuses.{either, both}
use Rattle.cyp_tree.specs.Standing.{IsIn}
use Rattle.cyp_tree.specs.Told.{parts_sum, way_sum, ways_sum, one_unsolved, one_unfailed, unsolved_from, unfailed_in}

-- ---- two statuses

pub both_failed : (a : Mark) → both a Failed ≡ Failed
both_failed Undecided = refl
both_failed Solved = refl
both_failed Failed = refl

both_failed_cases : (a b : Mark) → both a b ≡ Failed → (a ≡ Failed) ⊎ (b ≡ Failed)
both_failed_cases Undecided Undecided e = cc
both_failed_cases Undecided Solved e = cc
both_failed_cases Undecided Failed e = inr refl
both_failed_cases Solved b e = inr e
both_failed_cases Failed b e = inl refl

both_solved_cases : (a b : Mark) → both a b ≡ Solved → (a ≡ Solved) × (b ≡ Solved)
both_solved_cases Undecided Undecided e = cc
both_solved_cases Undecided Solved e = cc
both_solved_cases Undecided Failed e = cc
both_solved_cases Solved b e = (refl, e)
both_solved_cases Failed b e = cc

either_solved : (a : Mark) → either a Solved ≡ Solved
either_solved Undecided = refl
either_solved Solved = refl
either_solved Failed = refl

either_solved_cases : (a b : Mark) → either a b ≡ Solved → (a ≡ Solved) ⊎ (b ≡ Solved)
either_solved_cases Solved b e = inl refl
either_solved_cases Failed b e = inr e
either_solved_cases Undecided Undecided e = cc
either_solved_cases Undecided Solved e = inr refl
either_solved_cases Undecided Failed e = cc

either_failed_cases : (a b : Mark) → either a b ≡ Failed → (a ≡ Failed) × (b ≡ Failed)
either_failed_cases Solved b e = cc
either_failed_cases Failed b e = (refl, e)
either_failed_cases Undecided Undecided e = cc
either_failed_cases Undecided Solved e = cc
either_failed_cases Undecided Failed e = cc

pub open_by_rest : (a : Mark) → (a ≡ Solved → ⊥) → (a ≡ Failed → ⊥) → a ≡ Undecided
open_by_rest Undecided p q = refl
open_by_rest Solved p q = absurd (p refl)
open_by_rest Failed p q = absurd (q refl)

unsolved_zero : (a : Mark) → one_unsolved a ≡ 0 → a ≡ Solved
unsolved_zero Undecided e = absurd (omega arith)
unsolved_zero Solved e = refl
unsolved_zero Failed e = absurd (omega arith)

unfailed_zero : (a : Mark) → one_unfailed a ≡ 0 → a ≡ Failed
unfailed_zero Undecided e = absurd (omega arith)
unfailed_zero Solved e = absurd (omega arith)
unfailed_zero Failed e = refl

pub unfailed_one : (a : Mark) → (a ≡ Failed → ⊥) → one_unfailed a ≡ 1
unfailed_one Undecided h = refl
unfailed_one Solved h = refl
unfailed_one Failed h = absurd (h refl)

-- ---- counters

pub zero_solved : (s : ℕ → Mark) (j c : ℕ) → unsolved_from s j c ≡ 0 → parts_sum s j c ≡ Solved
zero_solved s j zero e = refl
zero_solved s j (suc c) e = (λ i. both (unsolved_zero (s j) (omega arith) i) (zero_solved s (suc j) c (omega arith) i))

pub solved_zero : (s : ℕ → Mark) (j c : ℕ) → parts_sum s j c ≡ Solved → unsolved_from s j c ≡ 0
solved_zero s j zero e = refl
solved_zero s j (suc c) e =
    let h : (s j ≡ Solved) × (parts_sum s (suc j) c ≡ Solved) = both_solved_cases (s j) (parts_sum s (suc j) c) e in
    let one : one_unsolved (s j) ≡ 0 = ap one_unsolved h.0 in
    omega (arith, solved_zero s (suc j) c h.1)

pub zero_failed : {R : Type 0} (s : ℕ → Mark) (ys : List (Way R)) → unfailed_in s ys ≡ 0 → ways_sum s ys ≡ Failed
zero_failed s [] e = refl
zero_failed s (y ∷ ys) e = (λ i. either (unfailed_zero (way_sum s y) (omega arith) i) (zero_failed s ys (omega arith) i))

pub failed_zero : {R : Type 0} (s : ℕ → Mark) (ys : List (Way R)) → ways_sum s ys ≡ Failed → unfailed_in s ys ≡ 0
failed_zero s [] e = refl
failed_zero s (y ∷ ys) e =
    let h : (way_sum s y ≡ Failed) × (ways_sum s ys ≡ Failed) = either_failed_cases (way_sum s y) (ways_sum s ys) e in
    let one : one_unfailed (way_sum s y) ≡ 0 = ap one_unfailed h.0 in
    omega (arith, failed_zero s ys h.1)

-- ---- two ways to tell statuses

-- what has failed stays so
pub failed_stays : (s t : ℕ → Mark) → ((i : ℕ) → s i ≡ Failed → t i ≡ Failed) → (j c : ℕ) → parts_sum s j c ≡ Failed → parts_sum t j c ≡ Failed
failed_stays s t h j zero e = cc
failed_stays s t h j (suc c) e = elim (both_failed_cases (s j) (parts_sum s (suc j) c) e) [
  | inl a ↦ ap (λ (z : Mark). both z (parts_sum t (suc j) c)) (h j a)
  | inr b ↦ ap (both (t j)) (failed_stays s t h (suc j) c b) ∙ both_failed (t j)
]

-- a solved way solves its node
pub solved_found : {R : Type 0} (s : ℕ → Mark) (ys : List (Way R)) (i : ℕ) (y : Way R) → slice_get ys i ≡ Some y → way_sum s y ≡ Solved → ways_sum s ys ≡ Solved
solved_found s [] i y e h = cc
solved_found s (z ∷ ys) zero y e h =
    let same : z ≡ y = cc in ap (λ (x : Mark). either x (ways_sum s ys)) (ap (way_sum s) same ∙ h)
solved_found s (z ∷ ys) (suc i) y e h = ap (either (way_sum s z)) (solved_found s ys i y e h) ∙ either_solved (way_sum s z)

-- a solved node was solved, if each of its solved ways was
pub was_solved : {R : Type 0} (s t : ℕ → Mark) (ys : List (Way R)) → ((i : ℕ) (y : Way R) → slice_get ys i ≡ Some y → way_sum t y ≡ Solved → way_sum s y ≡ Solved)
    → ways_sum t ys ≡ Solved → ways_sum s ys ≡ Solved
was_solved s t [] h e = cc
was_solved s t (y ∷ ys) h e = elim (either_solved_cases (way_sum t y) (ways_sum t ys) e) [
  | inl a ↦ ap (λ (x : Mark). either x (ways_sum s ys)) (h 0 y refl a)
  | inr b ↦ ap (either (way_sum s y)) (was_solved s t ys (λ i z f. h (suc i) z f) b) ∙ either_solved (way_sum s y)
]

-- ---- one status changes

module _ (s t : ℕ → Mark) (at : ℕ) (same : (j : ℕ) → (j ≡ at → ⊥) → t j ≡ s j) where
  pub parts_same : (j c : ℕ) → ((i : ℕ) → j ≤ i → i < j + c → i ≡ at → ⊥) → parts_sum t j c ≡ parts_sum s j c
  parts_same j zero h = refl
  parts_same j (suc c) h = (λ i. both (same j (h j (omega arith) (omega arith)) i) (parts_same (suc j) c (λ k a b. h k (omega arith) (omega arith)) i))

  pub unsolved_same : (j c : ℕ) → ((i : ℕ) → j ≤ i → i < j + c → i ≡ at → ⊥) → unsolved_from t j c ≡ unsolved_from s j c
  unsolved_same j zero h = refl
  unsolved_same j (suc c) h = (λ i. one_unsolved (same j (h j (omega arith) (omega arith)) i) + unsolved_same (suc j) c (λ k a b. h k (omega arith) (omega arith)) i)

  pub unsolved_change : (j c : ℕ) → j ≤ at → at < j + c → unsolved_from t j c + one_unsolved (s at) ≡ unsolved_from s j c + one_unsolved (t at)
  unsolved_change j zero l h = absurd (omega arith)
  unsolved_change j (suc c) l h = elim (cases_eq j at) [
    | inl here ↦
        let rest : unsolved_from t (suc j) c ≡ unsolved_from s (suc j) c = unsolved_same (suc j) c (λ k a b e. omega arith) in
        let one : one_unsolved (t j) ≡ one_unsolved (t at) = ap (λ (k : ℕ). one_unsolved (t k)) here in
        let two : one_unsolved (s j) ≡ one_unsolved (s at) = ap (λ (k : ℕ). one_unsolved (s k)) here in
        omega arith
    | inr other ↦
        let one : one_unsolved (t j) ≡ one_unsolved (s j) = ap one_unsolved (same j other) in
        omega (arith, unsolved_change (suc j) c (omega arith) (omega arith))
  ]

  pub parts_failed : (j c : ℕ) → j ≤ at → at < j + c → t at ≡ Failed → parts_sum t j c ≡ Failed
  parts_failed j zero l h e = absurd (omega arith)
  parts_failed j (suc c) l h e = elim (cases_eq j at) [
    | inl here ↦ ap (λ (z : Mark). both z (parts_sum t (suc j) c)) (ap t here ∙ e)
    | inr other ↦ ap (both (t j)) (parts_failed (suc j) c (omega arith) (omega arith) e) ∙ both_failed (t j)
  ]

  pub way_same : {R : Type 0} (y : Way R) → (IsIn at y.parts → ⊥) → way_sum t y ≡ way_sum s y
  way_same y h = parts_same y.parts.first y.parts.count (λ i l m e. h (record { low = subst (λ (k : ℕ). y.parts.first ≤ k) e l; high = subst (λ (k : ℕ). k < y.parts.first + y.parts.count) e m }))

  pub way_unsolved_same : {R : Type 0} (y : Way R) → (IsIn at y.parts → ⊥) → unsolved_from t y.parts.first y.parts.count ≡ unsolved_from s y.parts.first y.parts.count
  way_unsolved_same y h =
      unsolved_same y.parts.first y.parts.count (λ i l m e. h (record { low = subst (λ (k : ℕ). y.parts.first ≤ k) e l; high = subst (λ (k : ℕ). k < y.parts.first + y.parts.count) e m }))

  pub ways_same : {R : Type 0} (ys : List (Way R)) → ((i : ℕ) (y : Way R) → slice_get ys i ≡ Some y → IsIn at y.parts → ⊥) → ways_sum t ys ≡ ways_sum s ys
  ways_same [] h = refl
  ways_same (y ∷ ys) h = (λ i. either (way_same y (h 0 y refl) i) (ways_same ys (λ k z e. h (suc k) z e) i))

  pub unfailed_same : {R : Type 0} (ys : List (Way R)) → ((i : ℕ) (y : Way R) → slice_get ys i ≡ Some y → IsIn at y.parts → ⊥) → unfailed_in t ys ≡ unfailed_in s ys
  unfailed_same [] h = refl
  unfailed_same (y ∷ ys) h = (λ i. one_unfailed (way_same y (h 0 y refl) i) + unfailed_same ys (λ k z e. h (suc k) z e) i)

  pub unfailed_change : {R : Type 0} (ys : List (Way R)) (i : ℕ) (y : Way R) → slice_get ys i ≡ Some y
      → ((k : ℕ) (z : Way R) → (k ≡ i → ⊥) → slice_get ys k ≡ Some z → IsIn at z.parts → ⊥)
      → unfailed_in t ys + one_unfailed (way_sum s y) ≡ unfailed_in s ys + one_unfailed (way_sum t y)
  unfailed_change [] i y e h = cc
  unfailed_change (z ∷ ys) zero y e h =
      let is : z ≡ y = cc in
      let rest : unfailed_in t ys ≡ unfailed_in s ys = unfailed_same ys (λ k x f. h (suc k) x (λ bad. omega arith) f) in
      let one : one_unfailed (way_sum t z) ≡ one_unfailed (way_sum t y) = ap (λ (x : Way _). one_unfailed (way_sum t x)) is in
      let two : one_unfailed (way_sum s z) ≡ one_unfailed (way_sum s y) = ap (λ (x : Way _). one_unfailed (way_sum s x)) is in
      omega arith
  unfailed_change (z ∷ ys) (suc i) y e h =
      let one : one_unfailed (way_sum t z) ≡ one_unfailed (way_sum s z) = ap one_unfailed (way_same z (h 0 z (λ bad. omega arith) refl)) in
      omega (arith, unfailed_change ys i y e (λ k x o f. h (suc k) x (λ b. o (omega arith)) f))
