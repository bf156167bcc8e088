use Rattle.std.proofs.Common.{◌≡◌, ◌++◌}
use Rattle.cyp_step.proofs.NumberedVars.{vars_from}
use Rattle.cyp_step.proofs.closing.add_vars.Given as goal

abbrev pub invariant-loop-number : goal.invariant-loop-number
invariant-loop-number l = l.vars ++ vars_from l.sort l.to l.number ≡ l.initial.vars ++ vars_from l.sort l.to l.from
