use Rattle.cyp_term.specs.Terms.{set_vars, var_eq}
use Rattle.cyp_pure.proofs.Adding.{added_ok}
use Rattle.cyp_pure.proofs.Sides.{vars_compared}
use Rattle.cyp_pure.proofs.seen.add_lit_vars.Goals as goal

pub returns-in_ok-add_set_vars-in-Same : goal.returns-in_ok-add_set_vars-in-Same
returns-in_ok-add_set_vars-in-Same c =
    rw (vars_compared c.args.lit.now c.in-Same.a c.in-Same.b c.in-Same.is)
    (added_ok var_eq c.args.vars.now.items c.add_set_vars-in-Same.new.vars.items c.add_set_vars-in-Same-2.new.vars.items (set_vars c.in-Same.a) (set_vars c.in-Same.b) c.add_set_vars-in-Same-2.result
    c.in_ok-add_set_vars-in-Same.ensures c.add_set_vars-in-Same-2.ensures)
