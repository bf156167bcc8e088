use Rattle.std.proofs.Common.{◌≡◌, ◌++◌, drop, flat_map}
use Rattle.cyp_measure.specs.Levels.{group}
use Rattle.cyp_measure.proofs.numbers.groups_of.Given as goal

abbrev pub invariant-loop-tuple : goal.invariant-loop-tuple
invariant-loop-tuple l = l.numbers.items ++ flat_map group (drop l.tuple-index l.tuples) ≡ flat_map group l.tuples
