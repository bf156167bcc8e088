use Rattle.cyp_unfold.proofs.OpenTurns.{place_added, places_end}
use Rattle.cyp_unfold.proofs.opens.openings.Goals as goal

pub loop-place-preserved : goal.loop-place-preserved
loop-place-preserved c =
    place_added c.args.limit c.args.chunks.now c.loop-place.place c.index-chunks-place.result c.loop-place-test.true c.index-chunks-place.is c.loop-place.rules.items c.add_opening.new.rules.items _
    c.loop-place.invariant c.in_ok-add_opening.ensures
