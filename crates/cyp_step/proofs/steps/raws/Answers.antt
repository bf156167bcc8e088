use Rattle.cyp_step.proofs.LeftInCode.{each_left, flat_otherwise}
use Rattle.cyp_step.proofs.steps.raws.Goals as goal

pub flat_raws-requires : goal.flat_raws-requires
flat_raws-requires c = flat_otherwise c.args.rule.now c.in_default.not-ByCall c.in_default.not-ByOpen c.in_default.not-ByClose

pub returns-in_default : goal.returns-in_default
returns-in_default c = each_left c.args.node.now c.args.rule.now c.flat_raws.result c.flat_raws.ensures
