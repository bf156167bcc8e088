use Rattle.std.proofs.Common.{◌++◌, ◌+◌, ◌-◌, ◌≡◌, ◌∙◌, ap, sym, arith, append-nil}
use Rattle.cyp_prog.specs.PrintedLists.{parameter_text}
use Rattle.cyp_prog.proofs.Appending.{gone_over}
use Rattle.cyp_prog.proofs.Listing.{join-parameters, parameters_from, parameters_from-turn}
use Rattle.cyp_prog.proofs.write.add_parameters.Goals as goal

pub loop-place-preserved : goal.loop-place-preserved
loop-place-preserved c =
    let i = c.loop-place.place in
    let n = c.args.count in
    gone_over c.loop-place.text.items c.add_parameter.new.text.items (parameter_text i) (parameters_from i (n - i)) (parameters_from (i + 1) (n - (i + 1)))
    (c.args.text.now.items ++ parameters_from 0 n)
    c.in_ok-add_parameter.ensures (parameters_from-turn i n (omega (arith, c.loop-place-test.true, c.from-place-end.ensures))) c.loop-place.invariant

pub returns : goal.returns
returns c =
    let i = c.loop-place.place in
    let n = c.args.count in
    let none : n - i ≡ 0 = omega (arith, c.loop-place-test.false, c.from-place-end.ensures) in
    sym (append-nil c.loop-place.text.items)
    ∙ ap (λ k. c.loop-place.text.items ++ parameters_from i k) (sym none)
    ∙ c.loop-place.invariant
    ∙ ap (λ t. c.args.text.now.items ++ t) (sym (join-parameters n))
