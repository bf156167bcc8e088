use Rattle.std.proofs.Common.{◌∙◌, sym}
use Rattle.cyp_spec.proofs.RootSteps.{no_fault, one_fault}
use Rattle.cyp_spec.proofs.root_limits.root_fault.Goals as goal

pub returns-then-branch : goal.returns-then-branch
returns-then-branch c =
    let r = c.requires in
    no_fault c.args.tree.now r.names r.preds r.small (sym c.in_ok-is_root_within.ensures ∙ c.if-branch.true)

pub returns : goal.returns
returns c =
    let r = c.requires in
    c.fault.ensures ∙ one_fault c.args.tree.now r.names r.preds r.small (sym c.in_ok-is_root_within.ensures ∙ c.if-branch.false)
