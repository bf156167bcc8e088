use Rattle.std.proofs.lemmas.Result.{err_from_is_err_and}
use Rattle.cyp_heap.proofs.Applied.{refused_at}
use Rattle.cyp_term.specs.Terms.{apply_term, wide_term}
use Rattle.cyp_step.proofs.applying.apply_terms.Goals as goal

pub returns-in_err-apply_term : goal.returns-in_err-apply_term
returns-in_err-apply_term c =
    let p = err_from_is_err_and c.from_residual-in_err-apply_term.result c.from_residual-in_err-apply_term.ensures.1 in
    rw (p.1, p.2) (refused_at (λ x. apply_term c.args.by.now x) (λ x. wide_term x) c.args.terms.now c.loop-term.term-index c.term-item.result c.in_err-apply_term.field-0.0 c.loop-term-test.true c.term-item.is c.in_err-apply_term.ensures)
