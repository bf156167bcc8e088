use Rattle.std.proofs.Common.{◌≡◌, ap, ◌∙◌}
use Rattle.std.proofs.lemmas.Result.{err_from_is_err_and}
use Rattle.cyp_term.proofs.Wide.{narrow_images, none_left, none_wide, own_left, wide_here}
use Rattle.cyp_term.proofs.lit.SetTerm.brought.Goals as goal

pub loop-elem-init : goal.loop-elem-init
loop-elem-init c =
    let own = c.as_slice-elem-items.result.now in
    let is : own ≡ c.args.self.now.elems = c.as_slice-elem-items.ensures ∙ ap (λ u. u.elems) c.self.view_is in
    record {
      elems = own_left c.args.by.now c.args.self.now own c.in_ok-elems.elems.items c.in_ok-elems.ensures.elems is;
      narrow = narrow_images c.args.by.now c.args.self.now own c.in_ok-elems.ensures.narrow is;
    }

pub returns-in_err-apply : goal.returns-in_err-apply
returns-in_err-apply c =
    let p = err_from_is_err_and c.from_residual-in_err-apply.result c.from_residual-in_err-apply.ensures.1 in
    rw (p.1, p.2) (wide_here c.args.by.now c.args.self.now c.as_slice-elem-items.result.now c.loop-elem.elem-index c.elem-item.result c.loop-elem-test.true c.elem-item.is c.loop-elem.invariant.narrow c.in_err-apply.ensures.gives)

pub returns : goal.returns
returns c =
    let own = c.as_slice-elem-items.result.now in
    (none_wide c.args.by.now c.args.self.now own c.loop-elem.elem-index c.loop-elem-test.false c.loop-elem.invariant.narrow, c.from_vec.ensures ∙ none_left c.args.by.now c.args.self.now own c.loop-elem.elem-index c.loop-elem-test.false c.loop-elem.elems.items _ c.loop-elem.invariant.elems)
