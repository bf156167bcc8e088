-- Narrow derivations.
use Rattle.std.specs.Prelude.{◌&&◌, Bool, false, length, max, nat_le, not, true, ℕ}
use Rattle.cyp_kernel.specs.Companions.{Proof, Proofs, is_called}
use Rattle.cyp_kernel.specs.Compile.{bound_count}
use Rattle.cyp_tree.specs.Derivations.{Derived, More, NoMore}

abbrev mutual
  -- the greatest number of parameters and binders on a path of a procedure
  pub widest : Bool → ℕ → Proof → ℕ
  widest top m (Derived n r ps) =
      elim (not top && is_called n r ps) [
        | true ↦ max m (widest_in (length n.goal.program) ps)
        | false ↦ max m (widest_in (bound_count r m) ps)
      ]

  pub widest_in : ℕ → Proofs → ℕ
  widest_in m NoMore = m
  widest_in m (More d ds) = max (widest false m d) (widest_in m ds)

-- no path of a procedure has more than 65,535 parameters and binders
abbrev pub is_narrow : Proof → Bool
is_narrow (Derived n r ps) = nat_le (widest true (length n.goal.program) (Derived n r ps)) 65535
