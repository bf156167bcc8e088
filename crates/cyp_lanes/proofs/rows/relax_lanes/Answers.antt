use Rattle.cyp_lanes.proofs.Lanes.{lanes}
use Rattle.cyp_lanes.proofs.rows.relax_lanes.Goals as goal

pub returns : goal.returns
returns c = lanes c.args.dst c.args.src 8 c.args.add c.requires.dst c.requires.src c.requires.add c.requires.long
