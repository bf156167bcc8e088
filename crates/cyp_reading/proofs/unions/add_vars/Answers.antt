use Rattle.cyp_reading.proofs.UnionsRead.{vars_turn}
use Rattle.cyp_reading.proofs.unions.add_vars.Goals as goal

pub loop-part-preserved : goal.loop-part-preserved
loop-part-preserved c =
    vars_turn c.args.scope.now c.args.parts.now c.loop-part.part-index c.part-item.result _ _ _ c.loop-part-test.true c.part-item.is c.in_ok-add_part_var.ensures c.loop-part.invariant
