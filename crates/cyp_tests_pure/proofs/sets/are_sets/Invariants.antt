use Rattle.std.proofs.Common.{◌≡◌, ℕ, ◌<◌, get_or, false}
use Rattle.cyp_term.specs.declared.lit.Lit.{Lit}
use Rattle.cyp_term.specs.Integers.{is_int_lit}
use Rattle.cyp_tests_pure.proofs.sets.are_sets.Given as goal

abbrev pub invariant-loop-k : goal.invariant-loop-k
invariant-loop-k l = (m : ℕ) (d : Lit) → m < l.k → is_int_lit (get_or l.lits m d) ≡ false
