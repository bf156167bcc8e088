-- Rows of integers, and a row made lesser by another one.
use Rattle.std.specs.Prelude.{ℤ, pos, negsuc, ◌+ℤ◌, ◌≤ℤ◌, ◌^◌, ◌-◌, List}
use Rattle.std.specs.Int.{int_min}
use Rattle.std.specs.Simd.Lanes.{zip2}

-- at most 2^61 in size, so that the sum of two such numbers fits
pub record IsModest (n : ℤ) : Type 0 where
  pub least : negsuc (2 ^ 61 - 1) ≤ℤ n
  pub most : n ≤ℤ pos (2 ^ 61)

-- each entry of the first row, or that of the second at its place plus the number, whichever is less
abbrev pub relaxed : List ℤ → List ℤ → ℤ → List ℤ
relaxed dst src add = zip2 (λ d s. int_min d (s +ℤ add)) dst src
