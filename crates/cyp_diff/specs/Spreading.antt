-- The bounds of one place.
use Rattle.std.specs.Prelude.{ℕ, ◌<◌, ℤ, ◌<ℤ◌, List, length}
use Rattle.cyp_diff.specs.Distances.{Within, distance, none}

-- the integer at place i meets its bounds: less another, it is at most the distance
abbrev pub MeetsFrom : (ℕ → ℤ) → ℕ → List (List ℤ) → Type 0
MeetsFrom x i rows = (j : ℕ) → j < length rows → distance rows i j <ℤ none → Within x i j (distance rows i j)
