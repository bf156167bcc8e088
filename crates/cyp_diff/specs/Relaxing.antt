-- Rows of distances made lesser by a bound that is added.
use Rattle.std.specs.Prelude.{ℕ, ◌<◌, ℤ, pos, ◌^◌, ◌+ℤ◌, ◌≤ℤ◌, ◌<ℤ◌, int_lt, cond, List, slice_index_or}
use Rattle.cyp_lanes.specs.Rows.{relaxed}
use Rattle.cyp_diff.specs.Distances.{none}

-- a distance that bounds nothing is moved out of the way, so that no sum with it is less than it was
abbrev pub lifted : ℤ → ℤ
lifted z = cond (int_lt z none) z (pos (2 ^ 61))

-- the row with the ways through a new bound c from place i, on to the row that was lifted
abbrev pub closer : ℕ → List ℤ → ℤ → List ℤ → List ℤ
closer i from c row = cond (int_lt (slice_index_or row i none) none) (relaxed row from (slice_index_or row i none +ℤ c)) row

-- the distance to place i is at least -2^40, so that sums with it fit
abbrev pub HasRoom : ℕ → List ℤ → Type 0
HasRoom i row = pos 0 ≤ℤ (slice_index_or row i none +ℤ pos (2 ^ 40))

-- where place j is no farther than by a new bound c from place i, no distance is more than the way through that bound, on to the
-- row that was lifted
abbrev pub IsThrough : ℕ → ℕ → ℤ → List ℤ → List ℤ → Type 0
IsThrough i j c from row =
    slice_index_or row i none <ℤ none → slice_index_or row j none ≤ℤ (slice_index_or row i none +ℤ c)
    → (k : ℕ) → k < 40 → slice_index_or row k none ≤ℤ (slice_index_or from k none +ℤ (slice_index_or row i none +ℤ c))
