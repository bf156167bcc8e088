-- A call at a lower measure is within the greatest that the bound's equation takes.
use Rattle.std.proofs.Common.{[], ◌<◌, List, arith, inl, inr, length, replicate, subst, suc, sym, zero, ℕ, ◌∷◌, ◌≤◌}
use Rattle.cyp_kernel.proofs.BoundGrowth.{bound_grows}
use Rattle.cyp_kernel.specs.Bound.{bound}
use Rattle.cyp_kernel.specs.Laws.{AtMostEach, IsLower, LowerIsBelow, greatest_below}

-- a number for each measure that grows with the measure's numbers
abbrev GrowsEach : (List ℕ → ℕ → ℕ) → Type 0
GrowsEach w = (ks ls : List ℕ) (y : ℕ) → AtMostEach ks ls → w ks y ≤ w ls y

same-first : (w : List ℕ → ℕ → ℕ) (m : ℕ) → GrowsEach w → GrowsEach (λ ks. w (m ∷ ks))
same-first w m grow ks ls y e = grow (m ∷ ks) (m ∷ ls) y (omega arith, e)

within-later : (w : List ℕ → ℕ → ℕ) (m : ℕ) (ms : List ℕ) (z : ℕ) → greatest_below (λ ks. w (m ∷ ks)) ms z ≤ greatest_below w (m ∷ ms) z
within-later w zero ms z = omega arith
within-later w (suc a) ms z = omega arith

within-first : (w : List ℕ → ℕ → ℕ) → GrowsEach w → (k m : ℕ) (ks ms : List ℕ) (z : ℕ) → k < m → AtMostEach ks (replicate (length ms) z)
    → w (k ∷ ks) (suc z) ≤ greatest_below w (m ∷ ms) z
within-first w grow k zero ks ms z l e = absurd (omega arith)
within-first w grow k (suc a) ks ms z l e =
    let least : w (k ∷ ks) (suc z) ≤ w (a ∷ replicate (length ms) z) (suc z) = grow (k ∷ ks) (a ∷ replicate (length ms) z) (suc z) (omega arith, e) in
    omega arith

lower-within : (w : List ℕ → ℕ → ℕ) → GrowsEach w → (k m : List ℕ) (z : ℕ) → IsLower z k m → w k (suc z) ≤ greatest_below w m z
lower-within w grow [] m z l = absurd l
lower-within w grow (k ∷ ks) [] z l = absurd l
lower-within w grow (k ∷ ks) (m ∷ ms) z (inl l) =
    let later : w (m ∷ ks) (suc z) ≤ greatest_below (λ x. w (m ∷ x)) ms z = lower-within (λ x. w (m ∷ x)) (same-first w m grow) ks ms z l.1 in
    let wider = within-later w m ms z in
    let all : w (m ∷ ks) (suc z) ≤ greatest_below w (m ∷ ms) z = omega arith in
    subst (λ (n : ℕ). w (n ∷ ks) (suc z) ≤ greatest_below w (m ∷ ms) z) (sym l.0) all
lower-within w grow (k ∷ ks) (m ∷ ms) z (inr l) = within-first w grow k m ks ms z l.0 l.1

pub lower_is_below : LowerIsBelow
lower_is_below steps k m z l = lower-within (bound steps) (λ ks ls y e. bound_grows steps steps ks ls y y (omega arith) e (omega arith)) k m z l
