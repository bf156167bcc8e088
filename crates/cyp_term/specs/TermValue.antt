use Rattle.std.specs.Prelude.{ℤ, ◌≤ℤ◌, pos, negsuc, ◌^◌, ◌-◌, Option, Some, None}
use Rattle.cyp_term.specs.declared.term.Var.{Var}
use Rattle.cyp_term.specs.declared.term.Sort.{Sort}
use Rattle.cyp_term.specs.declared.term.Sort.TheVariants.{Int, Card, Set}

-- base + offset, of any size
pub record TermValue : Type 0 where
  pub base : Option Var
  pub offset : ℤ

-- an integer or a cardinality
abbrev pub IsNumber : Sort → Type 0
IsNumber Int = Unit {0}
IsNumber Card = Unit {0}
IsNumber Set = ⊥

-- no variable, or one that stands for an integer or a cardinality
abbrev pub IsBase : Option Var → Type 0
IsBase None = Unit {0}
IsBase (Some v) = IsNumber v.sort

-- the offset is at most 2^32 in size
pub record IsTerm (base : Option Var) (offset : ℤ) : Type 0 where
  pub base_ok : IsBase base
  pub least : negsuc (2 ^ 32 - 1) ≤ℤ offset
  pub most : offset ≤ℤ pos (2 ^ 32)
