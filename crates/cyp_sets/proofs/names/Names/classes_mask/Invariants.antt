use Rattle.std.proofs.Common.{◌≡◌, ℕ, take}
use Rattle.std.specs.List.{list_any}
use Rattle.cyp_sets.specs.Masks.{share}
use Rattle.cyp_sets.specs.Names.{class_bit}
use Rattle.cyp_sets.proofs.names.Names.classes_mask.Given as goal

abbrev pub invariant-loop-term : goal.invariant-loop-term
invariant-loop-term l = (m : ℕ) → share m l.mask ≡ list_any (λ e. share m (class_bit l.self e)) (take l.term-index l.terms)
