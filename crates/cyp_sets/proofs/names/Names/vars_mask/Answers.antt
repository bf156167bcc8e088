use Rattle.cyp_sets.specs.Names.{var_bit}
use Rattle.cyp_sets.proofs.Unions.{more_bits}
use Rattle.cyp_sets.proofs.names.Names.vars_mask.Goals as goal

pub loop-var-preserved : goal.loop-var-preserved
loop-var-preserved c = more_bits (var_bit c.args.self.now) c.args.vars.now c.loop-var.var-index c.loop-var.mask c.var_bit-mask.result _ c.loop-var.invariant c.loop-var-test.true c.var_bit-mask.ensures
