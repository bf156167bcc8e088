use Rattle.std.proofs.Common.{sym, ◌∙◌}
use Rattle.cyp_print.proofs.Looking.{looked-behind, looked-past_numbers}
use Rattle.cyp_print.proofs.names.number_or.Goals as goal

pub loop-place-preserved : goal.loop-place-preserved
loop-place-preserved c =
    let at = c.in-Some.ensures.lookup.3 in
    sym (looked-behind c.args.program.now c.args.numbers.now c.loop-place.place c.args.otherwise c.args.var c.in-Some.other.now at.0 (at.1 c.in-Some.other.now) c.loop-place-test.true (sym c.is_same.ensures ∙ c.if-is_same.false))
    ∙ c.loop-place.invariant

pub returns : goal.returns
returns c = sym (looked-past_numbers c.args.program.now c.args.numbers.now c.loop-place.place c.args.otherwise c.args.var c.loop-place-test.false) ∙ c.loop-place.invariant
