use Rattle.std.proofs.Common.{arith}
use Rattle.std.proofs.lemmas.Int.{ints}
use Rattle.cyp_machine.proofs.Bounded.{free_above}
use Rattle.cyp_machine.proofs.heap.least_free.Goals as goal

pub returns-clause-free : goal.returns-clause-free
returns-clause-free c = free_above 576460752303423488 c.args.store.now _ c.args.size c.requires.bounded (omega (arith, ints))
