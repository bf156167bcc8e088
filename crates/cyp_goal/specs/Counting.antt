-- Counts that stop past a limit.
use Rattle.std.specs.Prelude.{[], ◌∷◌, List, cond, length, nat_le, ℕ}
use Rattle.cyp_term.specs.Terms.{term_eq, with_new}
use Rattle.cyp_term.specs.declared.term.Term.{Term}

-- the number of units, or 241 where it is more
abbrev pub capped : ℕ → ℕ
capped n = cond (nat_le n 240) n 241

-- the terms with one more at their end, where they are at most six and don't have it
abbrev pub with_few : List Term → Term → List Term
with_few ts t = cond (nat_le (length ts) 6) (with_new term_eq ts t) ts

-- the same with each of the others in turn
abbrev pub with_all_few : List Term → List Term → List Term
with_all_few ts [] = ts
with_all_few ts (u ∷ us) = with_all_few (with_few ts u) us
