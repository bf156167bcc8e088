-- The rules that unfold and call nothing.
use Rattle.cyp_step.specs.declared.rule.Rule.{Rule}
use Rattle.cyp_step.specs.declared.rule.Rule.TheVariants.{ByCall, ByClose, ByOpen}

-- it neither calls a companion nor unfolds an instance
abbrev pub IsFlatRule : Rule → Type 0
IsFlatRule (ByCall c) = ⊥
IsFlatRule (ByOpen i) = ⊥
IsFlatRule (ByClose c) = ⊥
IsFlatRule _ = Unit {0}
