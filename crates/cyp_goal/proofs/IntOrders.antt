-- The two orders of integers.
use Rattle.std.proofs.Common.{◌≡◌, int_le, int_lt, not, ℤ, arith}
use Rattle.std.proofs.lemmas.Int.{ints}

pub int_lt-not_le : (x y : ℤ) → int_lt y x ≡ not (int_le x y)
int_lt-not_le x y = grind (arith, ints)
