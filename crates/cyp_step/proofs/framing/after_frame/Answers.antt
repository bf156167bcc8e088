use Rattle.std.proofs.Common.{◌∙◌, sym}
use Rattle.cyp_step.proofs.FramedPlaces.{framed_there}
use Rattle.cyp_step.proofs.framing.after_frame.Goals as goal

pub framed_goal-requires-clause-pre : goal.framed_goal-requires-clause-pre
framed_goal-requires-clause-pre c = (framed_there c.args.place c.in-Some.lits c.args.goal.now (sym c.in-Some.is ∙ c.in_ok-lits.ensures)).0

pub framed_goal-requires-clause-post : goal.framed_goal-requires-clause-post
framed_goal-requires-clause-post c = (framed_there c.args.place c.in-Some.lits c.args.goal.now (sym c.in-Some.is ∙ c.in_ok-lits.ensures)).1
