use Rattle.std.proofs.Common.{arith}
use Rattle.cyp_measure.proofs.Groups.{group_added}
use Rattle.cyp_measure.proofs.numbers.add_group.Goals as goal

pub returns : goal.returns
returns c =
    group_added c.add_zeros.result c.args.numbers.now.items c.loop-number.numbers.items c.add_zeros.new.numbers.items c.args.tuple.now c.loop-number.number-index
    c.loop-number.invariant (omega (arith, c.loop-number-test.false)) c.requires c.add_zeros.ensures
