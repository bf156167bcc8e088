use Rattle.cyp_goal.proofs.Occurring.{added_two}
use Rattle.cyp_goal.proofs.occurs.add_both.Goals as goal

pub returns : goal.returns
returns g c =
    added_two c.args.table.now c.add_to.new.table c.add_to-2.new.table (g.A.Occurs.occurring c.args.a.now) (g.B.Occurs.occurring c.args.b.now) c.add_to.ensures c.add_to-2.ensures
