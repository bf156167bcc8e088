use Rattle.std.proofs.Common.{◌≡◌, ◌++◌, drop}
use Rattle.cyp_step.specs.Unfolding.{cards_of}
use Rattle.cyp_step.proofs.measures.add_cards.Given as goal

abbrev pub invariant-loop-chunk : goal.invariant-loop-chunk
invariant-loop-chunk l = l.terms ++ cards_of (drop l.chunk-index l.chunks) ≡ l.initial.terms ++ cards_of l.chunks
