-- The rules that use a chunk of the precondition.
use Rattle.std.specs.Prelude.{ℕ}
use Rattle.cyp_flat.specs.declared.places.ChunkRule.{ChunkRule}
use Rattle.cyp_flat.specs.declared.places.ChunkRule.TheVariants.{Frame, Free, Read, Write}
use Rattle.cyp_step.specs.declared.rule.Rule.{Rule}
use Rattle.cyp_step.specs.declared.rule.Rule.TheVariants.{ByFrame, ByFree, ByRead, ByWrite}

-- the rule at the chunk with this place
abbrev pub rule_at : ChunkRule → ℕ → Rule
rule_at Read = λ i. ByRead i
rule_at Frame = λ i. ByFrame i
rule_at Write = λ i. ByWrite i
rule_at Free = λ i. ByFree i
