use Rattle.std.proofs.Common.{◌∙◌, slice_get, subst}
use Rattle.std.specs.Prelude.{Err}
use Rattle.cyp_pred.specs.Unfold.{unfold_inst}
use Rattle.cyp_pred.specs.Unfoldable.{wide_entry}
use Rattle.cyp_step.proofs.CanUnfold.{can_unfold, one_is, one_wide}
use Rattle.cyp_term.specs.Answers.{GivesUnless}
use Rattle.cyp_term.specs.declared.fail.Fail.{Fail}
use Rattle.cyp_term.specs.declared.term.TooWide.{TooWide}
use Rattle.cyp_step.proofs.entries.one_entry.Goals as goal

pub unfold_one-requires : goal.unfold_one-requires
unfold_one-requires c =
    can_unfold c.get-preds.result.now c.args.node.now.preds c.args.inst.now c.args.next (c.get-preds.ensures ∙ c.preds.ensures.preds) c.list-list.ensures.formed c.requires.fits c.requires.card
    c.requires.tag c.requires.ints c.requires.cards c.requires.sets

pub returns-in-Ok : goal.returns-in-Ok
returns-in-Ok c =
    one_is c.get-preds.result.now c.args.node.now.preds c.args.inst.now c.args.next (c.get-preds.ensures ∙ c.preds.ensures.preds) c.args.clause c.in-Ok.entry c.in-Ok.ensures.1

pub returns-in-Err-Named : goal.returns-in-Err-Named
returns-in-Err-Named c =
    let o = slice_get (unfold_inst c.get-preds.result.now c.args.inst.now c.args.next) c.args.clause in
    one_wide c.get-preds.result.now c.args.node.now.preds c.args.inst.now c.args.next (c.get-preds.ensures ∙ c.preds.ensures.preds) c.args.clause
    (subst (λ (e : Fail TooWide). GivesUnless (wide_entry o) o (Err e)) c.in-Err-Named.field-0-is c.in-Err-Named.ensures)
