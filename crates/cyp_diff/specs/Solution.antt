-- Integers at places that meet bounds.
use Rattle.std.specs.Prelude.{◌≡◌, ℕ, zero, suc, ◌^◌, ◌-◌, ℤ, pos, negsuc, ◌≤ℤ◌, List, length, slice_index_or}
use Rattle.std.specs.Int.{int_min}
use Rattle.std.specs.List.{All}
use Rattle.cyp_diff.specs.Distances.{Meets}

-- the least of the first n values and 0
unfoldable pub least : (ℕ → ℤ) → ℕ → ℤ
least v zero = pos 0
least v (suc n) = int_min (v n) (least v n)

-- the integer at each place
abbrev pub at : List ℤ → ℕ → ℤ
at xs k = slice_index_or xs k (pos 0)

-- at most 0, and at least -2^40
pub record IsLow (z : ℤ) : Type 0 where
  pub least : negsuc (2 ^ 40 - 1) ≤ℤ z
  pub most : z ≤ℤ pos 0

-- an integer for each place, which meet the bounds
pub record Solves (rows : List (List ℤ)) (xs : List ℤ) : Type 0 where
  pub places : length xs ≡ length rows
  pub meets : Meets (at xs) rows
  pub low : All IsLow xs
