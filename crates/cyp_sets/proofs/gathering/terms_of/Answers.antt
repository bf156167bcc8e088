use Rattle.std.proofs.Common.{[], flat_map, ap, ◌∙◌}
use Rattle.std.proofs.lemmas.Result.{IfOk-weaker}
use Rattle.cyp_term.specs.Regions.{all_terms, elem_terms}
use Rattle.cyp_term.specs.Terms.{term_eq, with_all_new}
use Rattle.cyp_sets.proofs.Gathered.{lits_joined}
use Rattle.cyp_sets.proofs.gathering.terms_of.Goals as goal

pub returns : goal.returns
unfolding all_terms
returns c =
    IfOk-weaker c.with_all_terms-2.result _ _
    (λ v is. is ∙ lits_joined term_eq elem_terms c.args.lits.now c.args.more.now [] c.in_ok-with_all_terms.field-0.items
    (c.in_ok-with_all_terms.ensures ∙ ap (λ zs. with_all_new term_eq zs (flat_map elem_terms c.args.lits.now)) c.new.ensures.items))
    c.with_all_terms-2.ensures
