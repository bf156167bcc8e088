use Rattle.std.proofs.Common.{◌≡◌, take}
use Rattle.cyp_pure.proofs.entail.start.Given as goal

abbrev pub invariant-loop-lit : goal.invariant-loop-lit
invariant-loop-lit l = l.facts.items ≡ take l.lit-index l.more
