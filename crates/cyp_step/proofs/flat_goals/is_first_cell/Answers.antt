use Rattle.std.proofs.Common.{◌∙◌, sym}
use Rattle.std.proofs.lemmas.Result.{IfOk-weaker}
use Rattle.cyp_step.proofs.FirstPlaces.{first_there, none_there, other_there}
use Rattle.cyp_step.specs.FlatRules.{is_cell_at}
use Rattle.cyp_step.proofs.flat_goals.is_first_cell.Goals as goal

pub returns-then-place-chunks : goal.returns-then-place-chunks
returns-then-place-chunks c = sym (none_there (is_cell_at c.args.goal.now c.args.at) c.args.place c.args.chunks.now c.if-place-chunks.true)

pub returns-then-not-branch : goal.returns-then-not-branch
returns-then-not-branch c =
    sym (other_there (is_cell_at c.args.goal.now c.args.at) c.args.place c.args.chunks.now c.index-chunks-place.result c.if-place-chunks.false c.index-chunks-place.is
    (sym c.in_ok-is_cell_shown_at.ensures ∙ c.if-not-branch.true))

pub returns : goal.returns
returns c =
    let first = first_there (is_cell_at c.args.goal.now c.args.at) c.args.place c.args.chunks.now c.index-chunks-place.result c.if-place-chunks.false c.index-chunks-place.is
    (sym c.in_ok-is_cell_shown_at.ensures ∙ c.if-not-branch.false) in
    IfOk-weaker c.has_no_cell.result _ _ (λ b is. is ∙ sym first) c.has_no_cell.ensures
