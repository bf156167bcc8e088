use Rattle.std.proofs.Common.{◌<◌, arith, length}
use Rattle.cyp_flat.proofs.LeastTurns.{least_passed}
use Rattle.cyp_flat.specs.ChunkRules.{rule_at}
use Rattle.cyp_flat.proofs.places.least_row.Goals as goal

pub loop-place-preserved : goal.loop-place-preserved
loop-place-preserved c =
    let lt : c.loop-place.place < length c.args.node.now.goal.pre.chunks = omega arith in
    least_passed c.args.node.now (rule_at c.args.by) c.loop-place.place c.at.result c.in_ok-row.field-0 _ lt c.loop-place.invariant c.at.ensures c.in_ok-row.ensures c.in-NotAllowed.is
