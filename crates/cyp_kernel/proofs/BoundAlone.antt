-- The bound is the only function that meets its equation: an induction on measures in their lexicographic order.
use Rattle.std.proofs.Common.{[], ◌+◌, List, ap, length, max, refl, replicate, suc, sym, zero, ℕ, ◌∙◌, ◌∷◌, ◌≡◌}
use Rattle.std.proofs.lemmas.List.{length-replicate}
use Rattle.cyp_kernel.proofs.BoundEquation.{bound_law, times-same}
use Rattle.cyp_kernel.specs.Bound.{bound}
use Rattle.cyp_kernel.specs.Laws.{BoundIsOnly, greatest_below}

-- it holds of each measure that is one less at one place and starts again from some number at each later place
abbrev AllBelow : (List ℕ → Type 0) → List ℕ → Type 0
AllBelow p [] = Unit {0}
AllBelow p (zero ∷ ms) = AllBelow (λ ks. p (0 ∷ ks)) ms
AllBelow p (suc a ∷ ms) = ((z : ℕ) → p (a ∷ replicate (length ms) z)) × AllBelow (λ ks. p (suc a ∷ ks)) ms

-- it holds of a measure where it holds of all such measures
abbrev Inherits : (List ℕ → Type 0) → ℕ → Type 0
Inherits p n = (ms : List ℕ) → length ms ≡ n → AllBelow p ms → p ms

-- what is inherited holds of all measures of so many places
abbrev ByMeasure : ℕ → Type 1
ByMeasure n = (p : List ℕ → Type 0) → Inherits p n → (ms : List ℕ) → length ms ≡ n → p ms

by_first : (n : ℕ) → ByMeasure n → (p : List ℕ → Type 0) → Inherits p (suc n) → (a : ℕ) (ms : List ℕ) → length ms ≡ n → p (a ∷ ms)
by_first n later p step zero ms e = later (λ ks. p (0 ∷ ks)) (λ ks l below. step (0 ∷ ks) (ap suc l) below) ms e
by_first n later p step (suc a) ms e =
    later (λ ks. p (suc a ∷ ks))
    (λ ks l below. step (suc a ∷ ks) (ap suc l) ((λ z. by_first n later p step a (replicate (length ks) z) (length-replicate (length ks) z ∙ l)), below)) ms e

by_measure : (n : ℕ) → ByMeasure n
by_measure zero p step [] e = step [] e tt
by_measure zero p step (m ∷ ms) e = cc
by_measure (suc n) p step [] e = cc
by_measure (suc n) p step (m ∷ ms) e = by_first n (by_measure n) p step m ms (cc)

greatest-same : (w v : List ℕ → ℕ → ℕ) (ms : List ℕ) → AllBelow (λ ks. (y : ℕ) → w ks y ≡ v ks y) ms → (z : ℕ) → greatest_below w ms z ≡ greatest_below v ms z
greatest-same w v [] same z = refl
greatest-same w v (zero ∷ ms) same z = greatest-same (λ ks. w (0 ∷ ks)) (λ ks. v (0 ∷ ks)) ms same z
greatest-same w v (suc a ∷ ms) same z =
    λ i. max (same.0 z (suc z) i) (greatest-same (λ ks. w (suc a ∷ ks)) (λ ks. v (suc a ∷ ks)) ms same.1 z i)

pub bound_is_only : BoundIsOnly
bound_is_only w equation steps m y =
    by_measure (length m) (λ ks. (x : ℕ) → w steps ks x ≡ bound steps ks x)
    (λ ks l below x.
    equation steps ks x
    ∙ times-same (λ z. max (z + 9) (greatest_below (w steps) ks z)) (λ z. max (z + 9) (greatest_below (bound steps) ks z))
    (λ z. ap (max (z + 9)) (greatest-same (w steps) (bound steps) ks below z)) steps x
    ∙ sym (bound_law steps ks x))
    m refl y
