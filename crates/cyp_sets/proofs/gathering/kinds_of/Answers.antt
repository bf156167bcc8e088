use Rattle.std.proofs.Common.{◌==◌, []}
use Rattle.cyp_sets.proofs.Gathered.{gathered_more}
use Rattle.cyp_sets.proofs.gathering.kinds_of.Goals as goal

pub loop-class-preserved : goal.loop-class-preserved
loop-class-preserved c =
    gathered_more ◌==◌ [] c.args.classes.now c.loop-class.kinds.items c.add_class.new.classes.items c.loop-class.class-index _ c.loop-class.invariant c.loop-class-test.true c.in_ok-add_class.ensures.ok
