use Rattle.std.proofs.Common.{◌≡◌, drop, max}
use Rattle.cyp_heap.specs.Chunks.{insts}
use Rattle.cyp_step.specs.Calling.{chunks_at, next_tag}
use Rattle.cyp_step.proofs.called.next_tag.Given as goal

abbrev pub invariant-loop-place : goal.invariant-loop-place
invariant-loop-place l = max l.tag (next_tag (insts (chunks_at l.chunks (drop l.place-index l.places)))) ≡ next_tag (insts (chunks_at l.chunks l.places))
