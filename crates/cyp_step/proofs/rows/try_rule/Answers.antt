use Rattle.cyp_step.proofs.TriedRules.{tried_allowed, tried_dead}
use Rattle.cyp_step.proofs.rows.try_rule.Goals as goal

pub returns-then-branch : goal.returns-then-branch
returns-then-branch c =
    tried_dead c.args.node.now c.args.rule c.in_ok-renamed.field-0 c.in-Some.renamed c.in_ok-premises.premises c.as_slice.result.now c.in_ok-has_dead.field-0
    c.in_ok-renamed.ensures c.in-Some.is c.in_ok-premises.ensures c.as_slice.ensures c.in_ok-has_dead.ensures c.if-branch.true

pub returns : goal.returns
returns c =
    tried_allowed c.args.node.now c.args.rule c.in_ok-renamed.field-0 c.in-Some.renamed c.in_ok-premises.premises c.as_slice.result.now c.in_ok-has_dead.field-0
    c.in_ok-renamed.ensures c.in-Some.is c.in_ok-premises.ensures c.as_slice.ensures c.in_ok-has_dead.ensures c.if-branch.false
