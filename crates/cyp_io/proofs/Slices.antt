use Rattle.std.proofs.Common.{◌≡◌, ℕ, ◌+◌, ◌-◌, length, List, ◌++◌, take, drop, arith}
use Rattle.std.proofs.lemmas.Grind.{common_steps}
use Rattle.std.proofs.lemmas.List.{take-append-drop, drop-drop}

-- a slice to the end
pub to_the_end : (t : List ℕ) (i : ℕ) → take (length t - i) (drop i t) ≡ drop i t
to_the_end t i = grind (arith, common_steps)

-- the front of the rest, and what follows it
pub front_of_rest : (buf t all : List ℕ) (i n : ℕ) → t ≡ all → take n buf ≡ take n (take (length t - i) (drop i t)) → drop i all ≡ take n buf ++ drop (i + n) all
front_of_rest buf t all i n e f =
    rw (f, to_the_end t i, e, ← drop-drop n i all, take-append-drop n (drop i all))
