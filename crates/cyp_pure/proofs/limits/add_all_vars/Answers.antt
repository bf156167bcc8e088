use Rattle.cyp_term.specs.Terms.{lit_vars, var_eq}
use Rattle.cyp_pure.proofs.Adding.{added_part}
use Rattle.cyp_pure.proofs.limits.add_all_vars.Goals as goal

pub loop-lit-preserved : goal.loop-lit-preserved
loop-lit-preserved c =
    added_part var_eq lit_vars c.args.lits.now c.args.vars.now.items c.loop-lit.vars.items c.add_lit_vars.new.vars.items c.loop-lit.lit-index c.lit-item.result c.loop-lit.invariant c.loop-lit-test.true c.lit-item.is c.in_ok-add_lit_vars.ensures
