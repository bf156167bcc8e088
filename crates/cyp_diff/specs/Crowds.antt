-- Places that are pairwise different and near each other: more of them than a range has integers can't be.
use Rattle.std.specs.Prelude.{◌≡◌, ℕ, ℤ, pos, ◌+ℤ◌, ◌≤ℤ◌, List, [], ◌∷◌, length}
use Rattle.std.specs.List.{All}
use Rattle.cyp_diff.specs.declared.gaps.Gap.{Gap}
use Rattle.cyp_diff.specs.Distances.{Meets}
use Rattle.cyp_diff.specs.Gaps.{Apart}

-- the integers at the two places are different, and at most a number apart
abbrev pub IsNear : (ℕ → ℤ) → ℤ → ℕ → ℕ → Type 0
IsNear x most u v = (x u ≡ x v → ⊥) × (x u ≤ℤ (x v +ℤ most)) × (x v ≤ℤ (x u +ℤ most))

-- that holds of all integers that meet the bounds and avoid the gaps
abbrev pub AreNear : List (List ℤ) → List Gap → ℤ → ℕ → ℕ → Type 0
AreNear rows gaps most u v = (x : ℕ → ℤ) → Meets x rows → All (Apart x) gaps → IsNear x most u v

-- integers that avoid the gaps are different at the two places
abbrev pub AreDifferent : List Gap → ℕ → ℕ → Type 0
AreDifferent gaps u v = (x : ℕ → ℤ) → All (Apart x) gaps → x u ≡ x v → ⊥

-- each two of the places are near
abbrev pub AreAllNear : List (List ℤ) → List Gap → ℤ → List ℕ → Type 0
AreAllNear rows gaps most [] = Unit {0}
AreAllNear rows gaps most (m ∷ ms) = All (λ k. AreNear rows gaps most k m) ms × AreAllNear rows gaps most ms

-- there are so many places, each two of them near
pub record IsCrowd (rows : List (List ℤ)) (gaps : List Gap) (most count : ℤ) : Type 0 where
  pub places : List ℕ
  pub counted : pos (length places) ≡ count
  pub near : AreAllNear rows gaps most places

-- no integers meet the bounds and avoid the gaps
abbrev pub AreUnmet : List (List ℤ) → List Gap → Type 0
AreUnmet rows gaps = (x : ℕ → ℤ) → Meets x rows → All (Apart x) gaps → ⊥
