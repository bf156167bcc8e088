use Rattle.std.proofs.Common.{◌<◌, arith, length}
use Rattle.cyp_flat.proofs.PlaceTurns.{place_added}
use Rattle.cyp_flat.specs.ChunkRules.{rule_at}
use Rattle.cyp_flat.proofs.places.add_rows.Goals as goal

pub loop-place-preserved : goal.loop-place-preserved
loop-place-preserved c =
    let lt : c.loop-place.place < length c.args.node.now.goal.pre.chunks = omega arith in
    place_added c.args.node.now (rule_at c.args.by) c.loop-place.place c.at.result _ _ _ lt c.at.ensures c.loop-place.invariant c.in_ok-add_row.ensures
