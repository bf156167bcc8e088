use Rattle.std.proofs.Common.{◌≡◌, ◌++◌, drop}
use Rattle.cyp_step.specs.Calling.{chunks_beside}
use Rattle.cyp_step.proofs.called.chunks_beside.Given as goal

abbrev pub invariant-loop-place : goal.invariant-loop-place
invariant-loop-place l = l.kept.items ++ chunks_beside l.place l.places (drop l.place l.chunks) ≡ chunks_beside 0 l.places l.chunks
