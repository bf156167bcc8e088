use Rattle.std.proofs.Common.{ap, sym}
use Rattle.cyp_machine.specs.Values.{lookup}
use Rattle.cyp_machine.proofs.frame.value_of.Goals as goal

pub loop-number-init : goal.loop-number-init
loop-number-init c = ap (λ vs. lookup vs c.args.variable) (sym c.into_iter-number-iterator.ensures.into_iter_gives.0)
