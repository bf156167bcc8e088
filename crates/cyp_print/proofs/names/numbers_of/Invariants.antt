use Rattle.std.proofs.Common.{◌≡◌, map, take}
use Rattle.std.specs.Prelude.{zip}
use Rattle.cyp_print.specs.Lines.{number_or}
use Rattle.cyp_print.proofs.names.numbers_of.Given as goal

abbrev pub invariant-loop-var : goal.invariant-loop-var
invariant-loop-var l = l.found.items ≡ map (number_or (zip l.program l.numbers) l.otherwise) (take l.var-index l.vars)
