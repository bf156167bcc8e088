use Rattle.cyp_term.specs.Terms.{var_eq}
use Rattle.cyp_pure.proofs.Adding.{added_at}
use Rattle.cyp_pure.proofs.seen.add_vars.Goals as goal

pub loop-var-preserved : goal.loop-var-preserved
loop-var-preserved c =
    added_at var_eq c.args.more.now c.args.vars.now.items c.loop-var.vars.items c.add_var.new.vars.items c.loop-var.var-index _ c.loop-var.invariant c.loop-var-test.true c.in_ok-add_var.ensures
