use Rattle.cyp_spec.proofs.RootSteps.{normal_decides, written_decides, written_within}
use Rattle.cyp_spec.proofs.root_limits.is_root_within.Goals as goal

pub returns-in_ok-within-in-Some : goal.returns-in_ok-within-in-Some
returns-in_ok-within-in-Some c =
    let r = c.requires in
    let within = written_within c.args.tree.now r.names r.preds r.small c.in_ok-goal.field-0 c.in_ok-goal.ensures c.in-Some.goal c.in-Some.is in
    normal_decides c.args.tree.now r.names r.preds r.small _ within c.in_ok-within-in-Some.ensures

pub returns-in-None : goal.returns-in-None
returns-in-None c =
    let r = c.requires in
    written_decides c.args.tree.now r.names r.preds r.small c.in_ok-goal.field-0 c.in_ok-goal.ensures c.in-None.is
