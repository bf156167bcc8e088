use Rattle.std.proofs.lemmas.Result.{IfOk-weaker}
use Rattle.cyp_term.specs.Regions.{lit_set_vars}
use Rattle.cyp_term.specs.Terms.{var_eq}
use Rattle.cyp_sets.proofs.Gathered.{both_sides, pair_vars}
use Rattle.cyp_sets.proofs.gathering.with_lit_vars.Goals as goal

pub returns-in_ok-with_vars-in-Same : goal.returns-in_ok-with_vars-in-Same
returns-in_ok-with_vars-in-Same c =
    IfOk-weaker c.with_vars-in-Same-2.result _ _
    (λ v is. both_sides var_eq c.args.vars.items c.in-Same.a.vars c.in-Same.b.vars c.vars-in-Same.result.now c.vars-in-Same-2.result.now (lit_set_vars c.args.lit.now) c.in_ok-with_vars-in-Same.field-0.items v.items
    (pair_vars c.args.lit.now c.in-Same.a c.in-Same.b c.in-Same.is) c.vars-in-Same.ensures.vars c.vars-in-Same-2.ensures.vars c.in_ok-with_vars-in-Same.ensures is)
    c.with_vars-in-Same-2.ensures
