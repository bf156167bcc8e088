use Rattle.std.proofs.Common.{◌∙◌, rules, tests, arith}
use Rattle.std.specs.List.{list_all}
use Rattle.std.proofs.lemmas.Iterator.{YieldsList-from_range, items_from_collect}
use Rattle.std.proofs.lemmas.Iterator.Consumers.{YieldsList-from_filter}
use Rattle.std.proofs.lemmas.Result.{IfOk-at_ok}
use Rattle.cyp_sets.specs.Dealing.{integer}
use Rattle.cyp_sets.specs.Masks.{obeys}
use Rattle.cyp_sets.proofs.region_lists.regions_of.Goals as goal

pub returns : goal.returns
returns c =
    let collected = items_from_collect c.collect.result c.collect.ensures.ran
    (YieldsList-from_filter _ (λ r. list_all (obeys (integer c.args.classes r)) c.args.rules.now) (YieldsList-from_range 0 c.args.count c.args.count (cc) (omega arith)) c.filter.ensures.closure (λ x b q k. search (rules, tests))) in
    c.from_vec.ensures ∙ IfOk-at_ok _ c.in_ok-regions.was collected
