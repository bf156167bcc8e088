use Rattle.std.proofs.Common.{◌∙◌, ap}
use Rattle.std.specs.List.{flat_map}
use Rattle.cyp_term.specs.Terms.{term_vars, var_eq, with_all_new}
use Rattle.cyp_pure.proofs.Adding.{added_ok}
use Rattle.cyp_pure.proofs.seen.add_set_vars.Goals as goal

pub returns : goal.returns
returns c =
    added_ok var_eq c.args.vars.now.items c.add_vars.new.vars.items c.add_bases.new.vars.items c.args.set.now.vars (flat_map term_vars c.args.set.now.elems) c.add_bases.result
    (c.in_ok-add_vars.ensures ∙ ap (with_all_new var_eq c.args.vars.now.items) c.vars.ensures.vars)
    (rw (← c.elems.ensures) c.add_bases.ensures)
