use Rattle.cyp_names.proofs.SeenUses.{repeats_more}
use Rattle.cyp_names.proofs.repeats.first_repeat.Goals as goal

pub loop-place-preserved : goal.loop-place-preserved
loop-place-preserved g c =
    repeats_more g.T.Declares.declared c.args.items.now c.loop-place.place c.index-items-place.result c.loop-place.found c.repeat.result c.lesser-found.result _
    c.loop-place-test.true c.index-items-place.is c.repeat.ensures c.lesser-found.ensures c.loop-place.invariant
