use Rattle.std.proofs.Common.{[], flat_map, ap, ◌∙◌}
use Rattle.std.proofs.lemmas.Result.{IfOk-weaker}
use Rattle.cyp_term.specs.Regions.{all_set_vars, lit_set_vars}
use Rattle.cyp_term.specs.Terms.{var_eq, with_all_new}
use Rattle.cyp_sets.proofs.Gathered.{lits_joined}
use Rattle.cyp_sets.proofs.gathering.vars_of.Goals as goal

pub returns : goal.returns
unfolding all_set_vars
returns c =
    IfOk-weaker c.with_all_vars-2.result _ _
    (λ v is. is ∙ lits_joined var_eq lit_set_vars c.args.lits.now c.args.more.now [] c.in_ok-with_all_vars.field-0.items
    (c.in_ok-with_all_vars.ensures ∙ ap (λ zs. with_all_new var_eq zs (flat_map lit_set_vars c.args.lits.now)) c.new.ensures.items))
    c.with_all_vars-2.ensures
