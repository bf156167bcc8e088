-- A value plus nothing.
use Rattle.std.proofs.Common.{◌≡◌, ℤ, pos, ◌+ℤ◌, arith}
use Rattle.std.proofs.lemmas.Int.{ints}

pub plus-zero : (z : ℤ) → z +ℤ pos 0 ≡ z
plus-zero z = omega (arith, ints)
