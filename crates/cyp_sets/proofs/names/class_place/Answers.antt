use Rattle.std.proofs.Common.{◌==◌, length, ap, ◌∙◌, rules, tests}
use Rattle.std.proofs.lemmas.Iterator.{YieldsList-from_slice}
use Rattle.std.proofs.lemmas.Iterator.Search.{position_from_yields_List}
use Rattle.std.specs.Option.{unwrap_or}
use Rattle.cyp_sets.proofs.names.class_place.Goals as goal

pub returns : goal.returns
returns c =
    c.unwrap_or.ensures
    ∙ ap (λ o. unwrap_or o (length c.args.classes.now))
    (position_from_yields_List (λ other. other == c.args.class) _ _ c.position.result c.position.ensures.ran (YieldsList-from_slice c.args.classes.now (cc)) (λ x b q k. search (rules, tests)))
