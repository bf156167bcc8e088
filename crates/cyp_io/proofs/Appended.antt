use Rattle.std.proofs.Common.{ℕ, ◌+◌, ◌-◌, length, List, take, drop, Option, None, Some, arith, take-add}
use Rattle.std.proofs.lemmas.Grind.{common_steps}
use Rattle.std.specs.Io.KnownBytes.{Appends}
use Rattle.cyp_io.proofs.Slices.{to_the_end}

-- one piece after another
pub appends_more : (a b c : Option (List ℕ)) (t : List ℕ) (i n : ℕ) → Appends a b (take i t) → Appends b c (take n (take (length t - i) (drop i t))) → Appends a c (take (i + n) t)
appends_more None b c t i n p q = tt
appends_more (Some xs) None c t i n p q = absurd p
appends_more (Some xs) (Some ys) None t i n p q = absurd q
appends_more (Some xs) (Some ys) (Some zs) t i n p q = let e = to_the_end t i in grind (arith, common_steps, take-add)
