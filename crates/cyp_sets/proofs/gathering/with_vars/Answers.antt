use Rattle.cyp_term.specs.Terms.{var_eq}
use Rattle.cyp_sets.proofs.Gathered.{gathered_more}
use Rattle.cyp_sets.proofs.gathering.with_vars.Goals as goal

pub loop-var-preserved : goal.loop-var-preserved
loop-var-preserved c =
    gathered_more var_eq c.args.vars.items c.args.others.now c.loop-var.vars.items c.add_var.new.vars.items c.loop-var.var-index _ c.loop-var.invariant c.loop-var-test.true c.in_ok-add_var.ensures.ok
