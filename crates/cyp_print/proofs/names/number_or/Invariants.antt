use Rattle.std.proofs.Common.{◌≡◌}
use Rattle.cyp_print.proofs.Looking.{looked_from}
use Rattle.cyp_print.proofs.names.number_or.Given as goal

abbrev pub invariant-loop-place : goal.invariant-loop-place
invariant-loop-place l = looked_from l.program l.numbers l.place l.otherwise l.var ≡ looked_from l.program l.numbers 0 l.otherwise l.var
