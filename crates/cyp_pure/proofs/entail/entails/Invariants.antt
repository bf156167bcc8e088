use Rattle.std.proofs.Common.{take}
use Rattle.cyp_term.specs.Meaning.{Entails}
use Rattle.cyp_pure.proofs.entail.entails.Given as goal

abbrev pub invariant-loop-lit : goal.invariant-loop-lit
invariant-loop-lit l = Entails l.a (take l.lit-index l.b)
