use Rattle.std.proofs.Common.{◌≡◌, ◌∙◌, arith, drop, length}
use Rattle.std.specs.Vec.Iter.{into_iter_items}
use Rattle.cyp_term.proofs.FirstOnes.{all_chosen}
use Rattle.cyp_term.proofs.without_repeats.chosen.Goals as goal

pub returns : goal.returns
returns g c =
    let none : length (into_iter_items c.loop-item.item-iterator) ≡ 0 = grind (arith, c.loop-item.item-iterator.rest.ok, c.in-None.ensures.steps.0) in
    c.from_vec.ensures ∙ all_chosen (drop c.loop-item.place c.args.answers.now) (into_iter_items c.loop-item.item-iterator) c.loop-item.chosen.items _ none c.loop-item.invariant.same
