-- Laws of the bound on steps and of the programs of derivations.
use Rattle.std.specs.Prelude.{[], ◌+◌, ◌<◌, List, length, max, replicate, suc, zero, ℕ, ◌∷◌, ◌≡◌, ◌≤◌, ◌⊎◌}
use Rattle.cyp_kernel.specs.Bound.{bound, times}
use Rattle.cyp_kernel.specs.Companions.{Proof}
use Rattle.cyp_kernel.specs.Compile.{program_of}
use Rattle.cyp_machine.specs.Closed.{IsClosed}

-- the greatest of w at each measure that is one less at one place and starts again from z at each later place, from z + 1 on
abbrev pub greatest_below : (List ℕ → ℕ → ℕ) → List ℕ → ℕ → ℕ
greatest_below w [] z = 0
greatest_below w (zero ∷ ms) z = greatest_below (λ ks. w (0 ∷ ks)) ms z
greatest_below w (suc a ∷ ms) z = max (w (a ∷ replicate (length ms) z) (suc z)) (greatest_below (λ ks. w (suc a ∷ ks)) ms z)

-- the bound in one line: as often as a body has steps, nine more or what a call at a smaller measure comes to
abbrev pub BoundLaw : Type 0
BoundLaw = (steps : ℕ) (m : List ℕ) (y : ℕ) → bound steps m y ≡ times steps (λ z. max (z + 9) (greatest_below (bound steps) m z)) y

-- the bound is the only function for which that holds
abbrev pub BoundIsOnly : Type 0
BoundIsOnly = (w : ℕ → List ℕ → ℕ → ℕ)
    → ((steps : ℕ) (m : List ℕ) (y : ℕ) → w steps m y ≡ times steps (λ z. max (z + 9) (greatest_below (w steps) m z)) y)
    → (steps : ℕ) (m : List ℕ) (y : ℕ) → w steps m y ≡ bound steps m y

-- the measures have as many places, and each number of the first is at most that of the second
abbrev pub AtMostEach : List ℕ → List ℕ → Type 0
AtMostEach [] [] = Unit {0}
AtMostEach (a ∷ as') (b ∷ bs) = (a ≤ b) × AtMostEach as' bs
AtMostEach _ _ = ⊥

-- the bound grows with the number of steps, with each number of the measure and with the number that it begins from
abbrev pub BoundGrows : Type 0
BoundGrows = (steps more : ℕ) (m k : List ℕ) (y z : ℕ) → steps ≤ more → AtMostEach m k → y ≤ z → bound steps m y ≤ bound more k z

-- the bound is never below the number that it begins from
abbrev pub BoundIsAbove : Type 0
BoundIsAbove = (steps : ℕ) (m : List ℕ) (y : ℕ) → y ≤ bound steps m y

-- the first measure is lexicographically below the second, and its numbers after the place where it falls are at most z
abbrev pub IsLower : ℕ → List ℕ → List ℕ → Type 0
IsLower z (k ∷ ks) (m ∷ ms) = ((k ≡ m) × IsLower z ks ms) ⊎ ((k < m) × AtMostEach ks (replicate (length ms) z))
IsLower z _ _ = ⊥

-- a call at a lower measure is among those of which the bound takes the greatest
abbrev pub LowerIsBelow : Type 0
LowerIsBelow = (steps : ℕ) (k m : List ℕ) (z : ℕ) → IsLower z k m → bound steps k (suc z) ≤ greatest_below (bound steps) m z

-- a program that a derivation stands for calls no procedure that isn't there
abbrev pub ProgramIsClosed : Type 0
ProgramIsClosed = (name : List ℕ) (d : Proof) → IsClosed (program_of name d)
