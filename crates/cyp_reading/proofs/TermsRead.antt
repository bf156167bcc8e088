-- The bases and offsets of terms that are read.
use Rattle.std.proofs.Common.{List, Some, arith, subst, sym, ℕ, ℤ, ◌≡◌}
use Rattle.std.specs.Prelude.{pos, ◌+ℤ◌}
use Rattle.std.proofs.lemmas.Int.{ints}
use Rattle.cyp_term.specs.TermValue.{IsBase, IsNumber}
use Rattle.cyp_term.specs.declared.term.Sort.{Sort}
use Rattle.cyp_term.specs.declared.term.Sort.TheVariants.{Int}
use Rattle.cyp_names.specs.ReadTerms.{Scope, sort_in, var_named}

-- a name of an integer is the base of a term
pub int_base : (sc : Scope) (a : List ℕ) → sort_in sc a ≡ Int → IsBase (Some (var_named sc a))
int_base sc a e = subst (λ (s : Sort). IsNumber s) (sym e) tt

pub sum_is : (z : ℤ) → pos 0 +ℤ z ≡ z
sum_is z = omega (arith, ints)
