use Rattle.std.proofs.lemmas.Result.{err_from_is_err_and}
use Rattle.cyp_heap.proofs.Applied.{refused_at}
use Rattle.cyp_term.specs.Terms.{apply_lit, wide_lit}
use Rattle.cyp_step.proofs.applying.apply_lits.Goals as goal

pub returns-in_err-apply : goal.returns-in_err-apply
returns-in_err-apply c =
    let p = err_from_is_err_and c.from_residual-in_err-apply.result c.from_residual-in_err-apply.ensures.1 in
    rw (p.1, p.2) (refused_at (λ x. apply_lit c.args.by.now x) (λ x. wide_lit x) c.args.lits.now c.loop-lit.lit-index c.lit-item.result c.in_err-apply.field-0.0 c.loop-lit-test.true c.lit-item.is c.in_err-apply.ensures.gives)
