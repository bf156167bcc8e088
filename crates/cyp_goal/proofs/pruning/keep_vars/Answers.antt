use Rattle.std.proofs.Common.{◌∙◌, ap, rules}
use Rattle.std.specs.List.{filter}
use Rattle.std.proofs.lemmas.Fn.{filter_same}
use Rattle.cyp_term.specs.Terms.{var_in}
use Rattle.cyp_term.specs.declared.term.Var.{Var}
use Rattle.cyp_goal.proofs.pruning.keep_vars.Goals as goal

pub returns : goal.returns
returns c =
    c.from_vec.ensures ∙ filter_same _ (λ (v : Var). var_in v c.args.table.now) _ (λ x b f h. search rules) _ _ c.retain.ensures.filtered
    ∙ ap (filter (λ (v : Var). var_in v c.args.table.now)) c.into_vec-vars.ensures
