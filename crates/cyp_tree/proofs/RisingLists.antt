-- A list that doesn't fall and has each number once rises.
use Rattle.std.proofs.Common.{◌≡◌, refl, sym, ◌∙◌, ap, ℕ, zero, suc, ◌≤◌, ◌<◌, inl, inr, List, [], ◌∷◌, length, Some, arith}
use Rattle.std.specs.Prelude.{slice_index_or}
use Rattle.std.specs.List.{slice_get}
use Rattle.std.specs.List.Sorted.{IsNonDecreasingBy}
use Rattle.std.proofs.lemmas.Bool.{cases_eq}
use Rattle.std.proofs.lemmas.Option.{get_or_from_slice_get}
use Rattle.cyp_tree.specs.Numbers.{one_where, RisesFrom, Rises}
use Rattle.cyp_tree.specs.Dying.{times}
use Rattle.cyp_tree.proofs.Runs.{there_below}
use Rattle.cyp_tree.proofs.Retiring.{one_same, there_listed}

-- a number at two places is listed twice
twice : (xs : List ℕ) (i j k : ℕ) → i < j → slice_get xs i ≡ Some k → slice_get xs j ≡ Some k → 2 ≤ times k xs
twice [] i j k l e f = cc
twice (x ∷ xs) i zero k l e f = absurd (omega arith)
twice (x ∷ xs) zero (suc j) k l e f =
    let same : x ≡ k = cc in
    let one : one_where x k ≡ 1 = ap (λ (z : ℕ). one_where z k) same ∙ one_same k in
    omega (arith, there_listed k xs j f)
twice (x ∷ xs) (suc i) (suc j) k l e f = omega (arith, twice xs i j k (omega arith) e f)

-- what stands earlier is less
abbrev InOrder : List ℕ → Type 0
InOrder xs = (i j k l : ℕ) → i < j → slice_get xs i ≡ Some k → slice_get xs j ≡ Some l → k < l

in_order : (xs : List ℕ) → ((k : ℕ) → times k xs ≤ 1) → IsNonDecreasingBy (λ x. x) xs → InOrder xs
in_order xs once h i j k l less e f =
    let at : slice_index_or xs i 0 ≡ k = get_or_from_slice_get xs i k 0 e in
    let to : slice_index_or xs j 0 ≡ l = get_or_from_slice_get xs j l 0 f in
    let below : j < length xs = there_below xs j l f in
    let up : slice_index_or xs i 0 ≤ slice_index_or xs j 0 = h i j 0 (omega arith) below in
    elim (cases_eq k l) [
      | inl is ↦ absurd (omega (arith, twice xs i j k less e (f ∙ ap Some (sym is)), once k))
      | inr other ↦ omega arith
    ]

from_first : (j : ℕ) (ks : List ℕ) → InOrder (j ∷ ks) → RisesFrom j ks
from_first j [] h = tt
from_first j (k ∷ ks) h = (h 0 1 j k (omega arith) refl refl, from_first k ks (λ a b x y l e f. h (suc a) (suc b) x y (omega arith) e f))

rise : (xs : List ℕ) → InOrder xs → Rises xs
rise [] h = tt
rise (x ∷ xs) h = from_first x xs h

pub rise_sorted : (xs : List ℕ) → ((k : ℕ) → times k xs ≤ 1) → IsNonDecreasingBy (λ x. x) xs → Rises xs
rise_sorted xs once h = rise xs (in_order xs once h)
