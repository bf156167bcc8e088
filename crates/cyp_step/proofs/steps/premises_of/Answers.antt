use Rattle.std.proofs.Common.{IfOk, subst, sym, ◌≡◌}
use Rattle.cyp_step.proofs.FormsMade.{linked_raws}
use Rattle.cyp_step.proofs.LeftInCode.{forms_of, none_are, raws_are}
use Rattle.cyp_step.proofs.steps.premises_of.Goals as goal

pub normal_forms-requires : goal.normal_forms-requires
normal_forms-requires c =
    linked_raws c.args.node.now c.args.rule.now c.in-Some.raws c.links-links.ensures.keeps
    (sym (raws_are c.args.node.now c.args.rule.now _ c.in-Some.raws c.in-Some.is c.in_ok-raws.ensures))

pub returns-in-Some : goal.returns-in-Some
returns-in-Some c =
    subst (λ x. IfOk c.normal_forms.result (λ r. r ≡ x)) (forms_of c.args.node.now c.args.rule.now _ c.in-Some.raws c.in-Some.is c.in_ok-raws.ensures) c.normal_forms.ensures

pub returns-in-None : goal.returns-in-None
returns-in-None c = none_are c.args.node.now c.args.rule.now _ c.in-None.is c.in_ok-raws.ensures
