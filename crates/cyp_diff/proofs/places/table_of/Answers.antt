use Rattle.cyp_diff.proofs.Vars.{vars_more}
use Rattle.cyp_diff.proofs.places.table_of.Goals as goal

pub loop-lit-preserved : goal.loop-lit-preserved
loop-lit-preserved c = vars_more c.args.lits.now c.loop-lit.vars c.add_both.new.self c.loop-lit.lit-index c.lit-item.result c.loop-lit.invariant c.loop-lit-test.true c.lit-item.is c.in_ok-add_both.ensures
