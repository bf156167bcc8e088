use Rattle.std.proofs.Common.{◌∙◌, ap}
use Rattle.std.specs.List.{flat_map}
use Rattle.cyp_goal.proofs.Occurring.{added_two, alone, set_parts_vars}
use Rattle.cyp_term.specs.Terms.{term_vars, var_eq, with_all_new}
use Rattle.cyp_goal.proofs.occurs.SetTermOccurs.add_to.Goals as goal

pub returns : goal.returns
returns c =
    added_two c.args.table.now c.add_all.new.table c.add_all-2.new.table (flat_map alone c.args.self.now.vars) (flat_map term_vars c.args.self.now.elems)
    (c.add_all.ensures ∙ ap (λ vs. with_all_new var_eq c.args.table.now (flat_map alone vs)) c.vars.ensures.vars)
    (c.add_all-2.ensures ∙ ap (λ ts. with_all_new var_eq c.add_all.new.table (flat_map term_vars ts)) c.elems.ensures)
    ∙ ap (with_all_new var_eq c.args.table.now) (set_parts_vars c.args.self.now)
