use Rattle.std.proofs.Common.{◌∙◌, Bool, ap, not, rules}
use Rattle.std.specs.List.{filter}
use Rattle.std.proofs.lemmas.Fn.{filter_same}
use Rattle.cyp_goal.specs.Tidying.{is_plainly_true}
use Rattle.cyp_term.specs.declared.lit.Lit.{Lit}
use Rattle.cyp_goal.proofs.tidying.telling.Goals as goal

pub returns : goal.returns
returns c =
    let tells : Lit → Bool = λ l. not (is_plainly_true l) in
    filter_same _ tells _ (λ x b f h. search rules) _ _ c.retain.ensures.filtered ∙ ap (filter tells) c.into_vec-lits.ensures
