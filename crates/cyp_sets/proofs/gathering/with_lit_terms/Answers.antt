use Rattle.std.proofs.lemmas.Result.{IfOk-weaker}
use Rattle.cyp_term.specs.Regions.{elem_terms}
use Rattle.cyp_term.specs.Terms.{term_eq}
use Rattle.cyp_sets.proofs.Gathered.{both_sides, pair_terms}
use Rattle.cyp_sets.proofs.gathering.with_lit_terms.Goals as goal

pub returns-in_ok-with_terms-in-Same : goal.returns-in_ok-with_terms-in-Same
returns-in_ok-with_terms-in-Same c =
    IfOk-weaker c.with_terms-in-Same-2.result _ _
    (λ v is. both_sides term_eq c.args.terms.items c.in-Same.a.elems c.in-Same.b.elems c.elems-in-Same.result.now c.elems-in-Same-2.result.now (elem_terms c.args.lit.now) c.in_ok-with_terms-in-Same.field-0.items v.items
    (pair_terms c.args.lit.now c.in-Same.a c.in-Same.b c.in-Same.is) c.elems-in-Same.ensures c.elems-in-Same-2.ensures c.in_ok-with_terms-in-Same.ensures is)
    c.with_terms-in-Same-2.ensures
