use Rattle.std.proofs.Common.{◌∙◌, ◌≡◌, Err, List, None, ap, false, map, subst, sym, true}
use Rattle.std.specs.Prelude.{is_some}
use Rattle.std.specs.List.{All}
use Rattle.cyp_goal.specs.Normal.{normal}
use Rattle.cyp_heap.specs.Formed.{insts_fit}
use Rattle.cyp_heap.specs.PredsValue.{PredsValue}
use Rattle.cyp_spec.proofs.RootSteps.{fits_at, formed_at, normal_at, readable_preds}
use Rattle.cyp_reading.specs.ReadableTexts.{PredReadable}
use Rattle.cyp_term.specs.Answers.{GivesWhere}
use Rattle.cyp_names.specs.Specifications.{read_pred}
use Rattle.cyp_text.specs.declared.tree.PredTree.{PredTree}
use Rattle.cyp_spec.proofs.root_limits.has_normal_form.Goals as goal

pub read_preds-requires : goal.read_preds-requires
read_preds-requires c =
    let r = c.requires in
    subst (λ (qs : List PredTree). All (PredReadable qs) qs) (sym c.as_slice.ensures) (readable_preds c.args.tree.now r.names r.preds r.small)

pub new-requires : goal.new-requires
new-requires c =
    let r = c.requires in
    formed_at c.args.tree.now r.names r.preds r.small c.in_ok-list.list (c.in_ok-list.ensures ∙ ap (λ (qs : List PredTree). map (read_pred qs) qs) c.as_slice.ensures)

pub new-requires-4 : goal.new-requires-4
new-requires-4 c =
    let r = c.requires in
    ap (λ (ps : PredsValue). insts_fit ps c.args.goal) (c.in_ok-preds.ensures ∙ c.new.ensures)
    ∙ fits_at c.args.tree.now r.names r.preds r.small c.in_ok-list.list (c.in_ok-list.ensures ∙ ap (λ (qs : List PredTree). map (read_pred qs) qs) c.as_slice.ensures) c.args.goal r.goal

pub returns-in-Ok : goal.returns-in-Ok
returns-in-Ok c =
    let r = c.requires in
    normal_at c.args.tree.now r.names r.preds r.small c.in_ok-preds.preds c.args.goal r.goal c.from_vec-links.result (c.from_vec-links.ensures ∙ c.new-3.ensures.items) true
    (ap is_some (ap normal (sym c.new-4.ensures) ∙ c.in-Ok.ensures))

pub returns-in-Err-Named : goal.returns-in-Err-Named
returns-in-Err-Named c =
    let r = c.requires in
    let none : normal c.new-4.result ≡ None = subst (λ (e : _). GivesWhere (normal c.new-4.result) (Err e)) c.in-Err-Named.field-0-is c.in-Err-Named.ensures in
    normal_at c.args.tree.now r.names r.preds r.small c.in_ok-preds.preds c.args.goal r.goal c.from_vec-links.result (c.from_vec-links.ensures ∙ c.new-3.ensures.items) false
    (ap is_some (ap normal (sym c.new-4.ensures) ∙ none))
