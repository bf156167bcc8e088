use Rattle.std.proofs.Common.{List, ap, subst, sym, ◌∙◌, ◌≡◌}
use Rattle.std.specs.List.{All}
use Rattle.cyp_heap.specs.PredsFormed.{IsFormedPreds}
use Rattle.cyp_heap.specs.declared.pred.Preds.{Preds}
use Rattle.cyp_reading.specs.ReadableTexts.{PredReadable}
use Rattle.cyp_spec.proofs.TextsReadable.{preds_readable}
use Rattle.cyp_names.specs.Specifications.{read_preds}
use Rattle.cyp_text.specs.declared.tree.PredTree.{PredTree}
use Rattle.cyp_formed.proofs.FormedPreds.{formed_preds}
use Rattle.cyp_spec.proofs.reading.read_preds.Goals.{In_ok-list}
use Rattle.cyp_spec.proofs.reading.read_preds.Goals as goal

pub read_preds-requires : goal.read_preds-requires
read_preds-requires c = subst (λ (qs : List PredTree). All (PredReadable qs) qs) (sym c.as_slice.ensures) (preds_readable c.args.tree.now c.requires.names c.requires.limits c.requires.small)

preds_are : (c : In_ok-list) → record { list = c.in_ok-list.list } ≡ read_preds c.args.tree.now.preds
preds_are c = (λ i. record { list = c.in_ok-list.ensures i }) ∙ ap read_preds c.as_slice.ensures

pub new-requires : goal.new-requires
new-requires c = subst (λ (ps : Preds). IsFormedPreds ps) (sym (preds_are (goal.at.new-requires c).In_ok-list)) (formed_preds c.args.tree.now c.requires.names c.requires.limits)

pub returns : goal.returns
returns c = c.new.ensures ∙ preds_are (goal.at.returns c).In_ok-list
