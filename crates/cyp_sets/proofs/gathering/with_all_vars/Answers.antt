use Rattle.cyp_term.specs.Regions.{lit_set_vars}
use Rattle.cyp_term.specs.Terms.{var_eq}
use Rattle.cyp_sets.proofs.Gathered.{lits_more}
use Rattle.cyp_sets.proofs.gathering.with_all_vars.Goals as goal

pub loop-lit-preserved : goal.loop-lit-preserved
loop-lit-preserved c =
    lits_more var_eq lit_set_vars c.args.lits.now c.args.vars.items c.loop-lit.vars.items c.in_ok-vars.vars.items c.loop-lit.lit-index c.lit-item.result c.loop-lit.invariant c.loop-lit-test.true c.lit-item.is c.in_ok-vars.ensures
