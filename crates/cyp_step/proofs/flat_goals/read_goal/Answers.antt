use Rattle.cyp_step.proofs.GoalsMade.{read_made}
use Rattle.cyp_step.proofs.flat_goals.read_goal.Goals as goal

pub returns : goal.returns
returns c =
    read_made c.args.goal.now c.in_ok-read.read c.args.place c.args.var c.args.cell.now c.new-content.result c.in_ok-pre.pre.chunks c.push.new.self c.push-2.new.self
    c.new-content.ensures c.in_ok-pre.ensures c.in_ok-read.ensures c.in_ok-push.ensures.ok c.in_ok-push-2.ensures.ok
