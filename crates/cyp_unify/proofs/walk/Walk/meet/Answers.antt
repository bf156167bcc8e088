use Rattle.std.proofs.Common.{◌∙◌, ap, subst}
use Rattle.std.proofs.lemmas.Result.{err_from_is_err_and}
use Rattle.cyp_unify.specs.Matches.{Plain, Walk, arg_positions, card_position, positions, walk, walk_step}
use Rattle.cyp_unify.specs.Walking.{Finds}
use Rattle.cyp_unify.proofs.WalkResults.{cells_wide, insts_met, insts_wide, refused_part}
use Rattle.cyp_unify.proofs.walk.Walk.meet.Goals as goal

pub returns-in_err-meet_args-in-Inst-Inst : goal.returns-in_err-meet_args-in-Inst-Inst
returns-in_err-meet_args-in-Inst-Inst c =
    let exist = c.args.exist.now in
    let w = c.args.self.now in
    let xs = c.as_slice.result.now in
    let ys = c.as_slice-in-Inst-Inst.result.now in
    let p = err_from_is_err_and c.from_residual.result c.from_residual.ensures.1 in
    rw (p.1, p.2)
    (refused_part (walk exist w (arg_positions xs ys)) (walk exist w (positions c.args.from.now c.args.place c.args.to.now)) c.meet_args.new.self c.in_err-meet_args-in-Inst-Inst.field-0.0
    (insts_wide exist w c.args.place c.args.from.now c.args.to.now c.in-Inst-Inst.from c.in-Inst-Inst.to xs ys c.in-Inst-Inst.is-0 c.in-Inst-Inst.is-1 c.as_slice.ensures c.as_slice-in-Inst-Inst.ensures)
    c.in_err-meet_args-in-Inst-Inst.ensures)

pub returns-in_err-meet_terms-in-Cell-Cell : goal.returns-in_err-meet_terms-in-Cell-Cell
returns-in_err-meet_terms-in-Cell-Cell c =
    let exist = c.args.exist.now in
    let w = c.args.self.now in
    let b = c.in-Cell-Cell.from in
    let d = c.in-Cell-Cell.to in
    let p = err_from_is_err_and c.from_residual-in_err-meet_terms-in-Cell-Cell.result c.from_residual-in_err-meet_terms-in-Cell-Cell.ensures.1 in
    rw (p.1, p.2)
    (refused_part (walk_step exist w (Plain b.at d.at)) (walk exist w (positions c.args.from.now c.args.place c.args.to.now)) c.meet_terms-in-Cell-Cell.new.self c.in_err-meet_terms-in-Cell-Cell.field-0.0
    (cells_wide exist w c.args.place c.args.from.now c.args.to.now b d c.in-Cell-Cell.is-0 c.in-Cell-Cell.is-1)
    c.in_err-meet_terms-in-Cell-Cell.ensures)

pub returns-in_ok-meet_args-in-Inst-Inst : goal.returns-in_ok-meet_args-in-Inst-Inst
returns-in_ok-meet_args-in-Inst-Inst c =
    let exist = c.args.exist.now in
    let w = c.args.self.now in
    let i = c.in-Inst-Inst.from in
    let j = c.in-Inst-Inst.to in
    let P : Walk → Type 0 = λ v. Finds v c.meet_cards.new.self c.meet_cards.result in
    subst P
    (ap (λ v. walk exist v (card_position i.card j.card)) c.in_ok-meet_args-in-Inst-Inst.ensures
    ∙ insts_met exist w c.args.place c.args.from.now c.args.to.now i j c.as_slice.result.now c.as_slice-in-Inst-Inst.result.now c.in-Inst-Inst.is-0 c.in-Inst-Inst.is-1 c.as_slice.ensures c.as_slice-in-Inst-Inst.ensures)
    c.meet_cards.ensures
