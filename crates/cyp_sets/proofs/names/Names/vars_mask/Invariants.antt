use Rattle.std.proofs.Common.{◌≡◌, ℕ, take}
use Rattle.std.specs.List.{list_any}
use Rattle.cyp_sets.specs.Masks.{share}
use Rattle.cyp_sets.specs.Names.{var_bit}
use Rattle.cyp_sets.proofs.names.Names.vars_mask.Given as goal

abbrev pub invariant-loop-var : goal.invariant-loop-var
invariant-loop-var l = (m : ℕ) → share m l.mask ≡ list_any (λ v. share m (var_bit l.self v)) (take l.var-index l.vars)
