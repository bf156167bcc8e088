-- Differences that are to be avoided, and integers that meet bounds and avoid them.
use Rattle.std.specs.Prelude.{◌≡◌, ℕ, ◌<◌, ◌^◌, ◌-◌, ℤ, pos, negsuc, ◌+ℤ◌, ◌≤ℤ◌, List, Option, Some, None}
use Rattle.std.specs.List.{All}
use Rattle.cyp_diff.specs.declared.gaps.Gap.{Gap}
use Rattle.cyp_diff.specs.Distances.{Meets, Within}
use Rattle.cyp_diff.specs.Solution.{at, Solves}

-- the integer at place i, less that at place j, isn't c
abbrev pub Apart : (ℕ → ℤ) → Gap → Type 0
Apart x g = x g.i ≡ (x g.j +ℤ g.c) → ⊥

-- the gap is between places below n, and its number at most 2^33 in size
pub record IsGap (n : ℕ) (g : Gap) : Type 0 where
  pub first : g.i < n
  pub second : g.j < n
  pub least : negsuc (2 ^ 33 - 1) ≤ℤ g.c
  pub most : g.c ≤ℤ pos (2 ^ 33)

-- integers that meet the bounds and avoid the gaps, or none where no integers do
abbrev pub SeparateMeans : List (List ℤ) → List Gap → Option (List ℤ) → Type 0
SeparateMeans rows gaps None = (x : ℕ → ℤ) → Meets x rows → All (Apart x) gaps → ⊥
SeparateMeans rows gaps (Some xs) = Solves rows xs × All (Apart (at xs)) gaps

-- the same, where a difference is at most c
abbrev pub SideMeans : List (List ℤ) → ℕ → ℕ → ℤ → List Gap → Option (List ℤ) → Type 0
SideMeans rows i j c gaps None = (x : ℕ → ℤ) → Meets x rows → Within x i j c → All (Apart x) gaps → ⊥
SideMeans rows i j c gaps (Some xs) = Solves rows xs × Within (at xs) i j c × All (Apart (at xs)) gaps
