use Rattle.std.proofs.Common.{◌≡◌, ◌+◌, length}
use Rattle.cyp_tests_pure.proofs.room.put_all.Given as goal

abbrev pub invariant-loop-number : goal.invariant-loop-number
invariant-loop-number l = (length l.numbers.items ≡ l.number) × (l.numbers.spare + l.number ≡ l.initial.numbers.spare)
