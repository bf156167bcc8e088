use Rattle.std.proofs.Common.{length, ap, ◌∙◌, rules, tests}
use Rattle.std.proofs.lemmas.Iterator.{YieldsList-from_slice}
use Rattle.std.proofs.lemmas.Iterator.Search.{position_from_yields_List}
use Rattle.std.specs.Option.{unwrap_or}
use Rattle.cyp_term.specs.Terms.{term_eq}
use Rattle.cyp_sets.proofs.names.term_place.Goals as goal

pub returns : goal.returns
returns c =
    c.unwrap_or.ensures
    ∙ ap (λ o. unwrap_or o (length c.args.terms.now))
    (position_from_yields_List (λ other. term_eq other c.args.term.now) _ _ c.position.result c.position.ensures.ran (YieldsList-from_slice c.args.terms.now (cc)) (λ x b q k. search (rules, tests)))
