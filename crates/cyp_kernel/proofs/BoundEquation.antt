-- The bound meets its equation.
use Rattle.std.proofs.Common.{[], ◌+◌, List, ap, arith, length, max, refl, replicate, suc, sym, zero, ℕ, ◌∙◌, ◌∷◌, ◌≡◌}
use Rattle.std.proofs.lemmas.List.{length-replicate}
use Rattle.cyp_kernel.specs.Bound.{bound, bound_by_first, bound_by_places, times}
use Rattle.cyp_kernel.specs.Laws.{BoundLaw, greatest_below}

max-zero : (a : ℕ) → max a 0 ≡ a
max-zero a = omega arith

max_assoc : (a b c : ℕ) → max (max a b) c ≡ max a (max b c)
max_assoc a b c = omega arith

-- the function may be changed where it gives the same
pub times-same : (g f : ℕ → ℕ) → ((z : ℕ) → g z ≡ f z) → (k y : ℕ) → times k g y ≡ times k f y
times-same g f same k y = λ i. times k (λ z. same z i) y

-- one step of a body at the numbers from some place on, with what the places before need
abbrev at_place : ℕ → (ℕ → ℕ) → List ℕ → ℕ → ℕ
at_place steps above ms z = max (z + 9) (max (above z) (greatest_below (bound_by_places steps (length ms) above) ms z))

by_places : (steps : ℕ) (ms : List ℕ) (above : ℕ → ℕ) (y : ℕ) → bound_by_places steps (length ms) above ms y ≡ times steps (at_place steps above ms) y
by_places steps [] above y = times-same (λ z. max (z + 9) (above z)) (at_place steps above []) (λ z. omega arith) steps y
by_places steps (zero ∷ ms) above y = by_places steps ms above y
by_places steps (suc a ∷ ms) above y =
    let low : ℕ → ℕ = λ z. bound_by_first (bound_by_places steps (length ms)) (length ms) a above (replicate (length ms) z) (suc z) in
    let rest : ℕ → ℕ = λ z. greatest_below (bound_by_places steps (length ms) (λ v. max (above v) (low v))) ms z in
    by_places steps ms (λ v. max (above v) (low v)) y
    ∙ times-same (λ z. max (z + 9) (max (max (above z) (low z)) (rest z))) (at_place steps above (suc a ∷ ms)) (λ z. ap (max (z + 9)) (max_assoc (above z) (low z) (rest z))) steps y

-- only measures of as many places are looked at
greatest_same : (w v : List ℕ → ℕ → ℕ) (ms : List ℕ) → ((ks : List ℕ) → length ks ≡ length ms → (y : ℕ) → w ks y ≡ v ks y)
    → (z : ℕ) → greatest_below w ms z ≡ greatest_below v ms z
greatest_same w v [] same z = refl
greatest_same w v (zero ∷ ms) same z = greatest_same (λ ks. w (0 ∷ ks)) (λ ks. v (0 ∷ ks)) ms (λ ks e y. same (0 ∷ ks) (ap suc e) y) z
greatest_same w v (suc a ∷ ms) same z =
    λ i. max (same (a ∷ replicate (length ms) z) (ap suc (length-replicate (length ms) z)) (suc z) i)
    (greatest_same (λ ks. w (suc a ∷ ks)) (λ ks. v (suc a ∷ ks)) ms (λ ks e y. same (suc a ∷ ks) (ap suc e) y) z i)

pub bound_law : BoundLaw
bound_law steps m y =
    by_places steps m (λ z. 0) y
    ∙ times-same (at_place steps (λ z. 0) m) (λ z. max (z + 9) (greatest_below (bound steps) m z)) (λ z. in_one_line z) steps y
  where
    in_one_line : (z : ℕ) → at_place steps (λ z. 0) m z ≡ max (z + 9) (greatest_below (bound steps) m z)
    in_one_line z =
        ap (λ (k : ℕ). max (z + 9) (max 0 k))
        (greatest_same (bound_by_places steps (length m) (λ v. 0)) (bound steps) m (λ ks e x. ap (λ (n : ℕ). bound_by_places steps n (λ v. 0) ks x) (sym e)) z) ∙ omega arith
