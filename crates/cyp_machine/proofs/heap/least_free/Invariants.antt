use Rattle.std.proofs.Common.{ℤ, ◌≤ℤ◌}
use Rattle.cyp_machine.specs.Steps.{IsFree}
use Rattle.cyp_machine.proofs.heap.least_free.Given as goal

abbrev pub invariant-loop-base : goal.invariant-loop-base
invariant-loop-base l = record { from : l.from ≤ℤ l.base; least : (a : ℤ) → l.from ≤ℤ a → IsFree l.store a l.size → l.base ≤ℤ a }
