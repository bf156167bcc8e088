use Rattle.cyp_term.specs.Terms.{term_vars, var_eq}
use Rattle.cyp_pure.proofs.Adding.{added_part}
use Rattle.cyp_pure.proofs.seen.add_bases.Goals as goal

pub loop-term-preserved : goal.loop-term-preserved
loop-term-preserved c =
    added_part var_eq term_vars c.args.terms.now c.args.vars.now.items c.loop-term.vars.items c.add_base.new.vars.items c.loop-term.term-index c.term-item.result c.loop-term.invariant c.loop-term-test.true c.term-item.is c.in_ok-add_base.ensures
