use Rattle.std.proofs.Common.{to_z, of_z, w64}
use Rattle.cyp_diff.specs.Relaxing.{closer}
use Rattle.cyp_diff.proofs.Reading.{row_step}
use Rattle.cyp_diff.proofs.bounds.close.Goals as goal

pub loop-row-preserved : goal.loop-row-preserved
loop-row-preserved c =
    row_step (closer c.args.i c.args.from.now (to_z w64 (of_z w64 c.args.c))) c.args.rows.now c.loop-row.rows c.loop-row.row-index c.come_closer.new.row
    c.loop-row.invariant c.loop-row-test.true c.come_closer.ensures
