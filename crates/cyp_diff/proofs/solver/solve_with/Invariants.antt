use Rattle.std.proofs.Common.{◌≡◌, ◌++◌, take}
use Rattle.cyp_diff.proofs.solver.solve_with.Given as goal

abbrev pub invariant-loop-lit : goal.invariant-loop-lit
invariant-loop-lit l = l.all.items ≡ take l.lit-index l.lits

abbrev pub invariant-loop-lit-2 : goal.invariant-loop-lit-2
invariant-loop-lit-2 l = l.all.items ≡ l.lits ++ take l.lit-index l.more
