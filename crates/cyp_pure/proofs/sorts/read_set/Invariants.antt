use Rattle.std.proofs.Common.{take}
use Rattle.std.specs.List.{All}
use Rattle.cyp_pure.specs.Sorts.{IsNumberTerm}
use Rattle.cyp_pure.proofs.sorts.read_set.Given as goal

abbrev pub invariant-loop-term : goal.invariant-loop-term
invariant-loop-term l = All IsNumberTerm (take l.term-index l.term-items)
