use Rattle.cyp_step.proofs.NumberedVars.{var_added, vars_added}
use Rattle.cyp_step.proofs.closing.add_vars.Goals as goal

pub loop-number-preserved : goal.loop-number-preserved
loop-number-preserved c =
    var_added c.args.sort c.args.to c.loop-number.number c.loop-number.vars c.push.new.self _ c.loop-number-test.true c.loop-number.invariant c.in_ok-push.ensures.ok

pub returns : goal.returns
returns c = vars_added c.args.sort c.args.to c.loop-number.number c.loop-number.vars _ c.loop-number-test.false c.loop-number.invariant
