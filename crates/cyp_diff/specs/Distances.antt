-- Distances between places, row by row: what they say of integers at the places.
use Rattle.std.specs.Prelude.{ℕ, ◌<◌, ◌^◌, ◌-◌, ℤ, pos, negsuc, ◌+ℤ◌, ◌≤ℤ◌, ◌<ℤ◌, List, [], length, slice_index_or}

-- the distance that bounds nothing
abbrev pub none : ℤ
none = pos (2 ^ 60)

-- the distance from place a to place b
abbrev pub distance : List (List ℤ) → ℕ → ℕ → ℤ
distance rows a b = slice_index_or (slice_index_or rows a []) b none

-- the integer at place i, less that at place j, is at most c
abbrev pub Within : (ℕ → ℤ) → ℕ → ℕ → ℤ → Type 0
Within x i j c = x i ≤ℤ (x j +ℤ c)

-- the integers meet the bounds: the difference between two places is at most their distance
abbrev pub Meets : (ℕ → ℤ) → List (List ℤ) → Type 0
Meets x rows = (a b : ℕ) → a < length rows → b < length rows → distance rows a b <ℤ none → Within x a b (distance rows a b)

-- at most 2^34 in size
pub record IsSmall (c : ℤ) : Type 0 where
  pub least : negsuc (2 ^ 34 - 1) ≤ℤ c
  pub most : c ≤ℤ pos (2 ^ 34)

-- the distance from place j back to place i is so far below -c that no integers meet it and x_i - x_j <= c
abbrev pub IsRefused : List (List ℤ) → ℕ → ℕ → ℤ → Type 0
IsRefused rows i j c = (distance rows j i <ℤ none) × ((distance rows j i +ℤ c) <ℤ pos 0)

-- at least -2^40, and at most the distance that bounds nothing
pub record IsDistance (z : ℤ) : Type 0 where
  pub least : negsuc (2 ^ 40 - 1) ≤ℤ z
  pub most : z ≤ℤ none
