use Rattle.std.proofs.lemmas.Result.{IfOk-weaker}
use Rattle.cyp_step.proofs.CallLeaves.{as_long, call_fits, called_leaves, few_left, no_link}
use Rattle.cyp_unify.specs.Matches.{match_at}
use Rattle.cyp_step.proofs.calling.call.Goals as goal

pub goal_by-requires-clause-long : goal.goal_by-requires-clause-long
goal_by-requires-clause-long c = as_long c.args.node.now c.link_at.ensures.keeps c.args.by.now.link c.in-Some.link.now c.in-Some.ensures.link

pub goal_by-requires-clause-few : goal.goal_by-requires-clause-few
goal_by-requires-clause-few c = few_left c.args.node.now c.link_at.ensures.keeps c.args.by.now.link c.in-Some.link.now c.in-Some.ensures.link

pub left-requires : goal.left-requires
left-requires c =
    call_fits c.args.node.now c.link_at.ensures.keeps c.args.by.now.link c.in-Some.link.now c.in-Some.ensures.link c.in_ok-goal-in-Some.goal
    (match_at c.args.node.now c.in-Some.link.now c.args.by.now.pairs) c.in_ok-goal-in-Some.ensures

pub returns-in_ok-goal-in-Some : goal.returns-in_ok-goal-in-Some
returns-in_ok-goal-in-Some c =
    IfOk-weaker c.left.result _ _
    (λ r is. called_leaves c.args.node.now c.args.by.now c.in-Some.link.now c.in_ok-goal-in-Some.goal r c.in-Some.ensures.link c.in_ok-goal-in-Some.ensures is)
    c.left.ensures

pub returns-in-None : goal.returns-in-None
returns-in-None c = no_link c.args.node.now c.args.by.now c.in-None.ensures.link
