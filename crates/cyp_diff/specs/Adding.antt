-- What adding a bound answers.
use Rattle.std.specs.Prelude.{◌≡◌, ℕ, ℤ, ◌↔◌, List}
use Rattle.cyp_diff.specs.declared.bounds.Adding.{Adding}
use Rattle.cyp_diff.specs.declared.bounds.Adding.TheVariants.{Added, Contradiction}
use Rattle.cyp_diff.specs.Distances.{Meets, Within}

-- Added: integers meet the new bounds exactly where they meet the old ones and x_i - x_j <= c, and some do. Contradiction: no
-- integers do so, and the bounds are unchanged
abbrev pub AddMeans : ℕ → ℕ → ℤ → List (List ℤ) → List (List ℤ) → Adding → Type 0
AddMeans i j c old new Added = ((x : ℕ → ℤ) → Meets x new ↔ (Meets x old × Within x i j c)) × ((x : ℕ → ℤ) × Meets x new)
AddMeans i j c old new Contradiction = (new ≡ old) × ((x : ℕ → ℤ) → Meets x old → Within x i j c → ⊥)
