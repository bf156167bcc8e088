use Rattle.std.proofs.Common.{◌≡◌, ◌++◌, drop}
use Rattle.cyp_unify.proofs.Framing.{pairs_from}
use Rattle.cyp_unify.proofs.frames.pairs_with.Given as goal

abbrev pub invariant-loop-place : goal.invariant-loop-place
invariant-loop-place l = l.pairs.items ++ pairs_from l.focus l.place (drop l.place l.chunks) ≡ pairs_from l.focus 0 l.chunks
