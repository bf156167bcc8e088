use Rattle.std.proofs.Common.{◌∙◌, ap, max}
use Rattle.cyp_step.proofs.CallTurns.{tag_turn}
use Rattle.cyp_step.proofs.called.next_tag.Goals as goal

pub loop-place-preserved : goal.loop-place-preserved
loop-place-preserved c =
    tag_turn c.args.chunks.now c.args.places.now c.loop-place.place-index _ c.loop-place.tag c.greater-tag.result _ c.loop-place.invariant c.loop-place-test.true
    (c.greater-tag.ensures ∙ ap (max c.loop-place.tag) c.tag_at.ensures)
