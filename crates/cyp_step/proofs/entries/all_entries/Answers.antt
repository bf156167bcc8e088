use Rattle.std.proofs.Common.{◌∙◌, subst}
use Rattle.std.specs.Prelude.{Err}
use Rattle.std.specs.List.{list_any}
use Rattle.cyp_pred.specs.Unfold.{unfold_inst, wide_unfolded}
use Rattle.cyp_step.proofs.CanUnfold.{all_are, can_unfold, wide_are}
use Rattle.cyp_term.specs.Answers.{GivesUnless}
use Rattle.cyp_term.specs.declared.fail.Fail.{Fail}
use Rattle.cyp_term.specs.declared.term.TooWide.{TooWide}
use Rattle.cyp_step.proofs.entries.all_entries.Goals as goal

pub unfold-requires : goal.unfold-requires
unfold-requires c =
    can_unfold c.get-preds.result.now c.args.node.now.preds c.args.inst.now c.args.next (c.get-preds.ensures ∙ c.preds.ensures.preds) c.list-list.ensures.formed c.requires.fits c.requires.card
    c.requires.tag c.requires.ints c.requires.cards c.requires.sets

pub returns-in-Ok : goal.returns-in-Ok
returns-in-Ok c =
    all_are c.get-preds.result.now c.args.node.now.preds c.args.inst.now c.args.next (c.get-preds.ensures ∙ c.preds.ensures.preds) c.in-Ok.entries c.in-Ok.ensures.1

pub returns-in-Err-Named : goal.returns-in-Err-Named
returns-in-Err-Named c =
    let us = unfold_inst c.get-preds.result.now c.args.inst.now c.args.next in
    wide_are c.get-preds.result.now c.args.node.now.preds c.args.inst.now c.args.next (c.get-preds.ensures ∙ c.preds.ensures.preds)
    (subst (λ (e : Fail TooWide). GivesUnless (list_any wide_unfolded us) us (Err e)) c.in-Err-Named.field-0-is c.in-Err-Named.ensures)
