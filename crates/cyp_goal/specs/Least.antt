-- The least of the addresses with one base.
use Rattle.std.specs.Prelude.{[], ◌∷◌, List, None, Option, Some, cond, int_le, option_map, ℤ}
use Rattle.cyp_goal.specs.Tidying.{least, offsets_at}
use Rattle.cyp_term.specs.Terms.{base_eq}
use Rattle.cyp_term.specs.declared.term.Term.{Term}
use Rattle.cyp_term.specs.declared.term.Var.{Var}

-- of two terms the one with the lower offset, the first where they are equal
abbrev pub lower : Option Term → Term → Option Term
lower None t = Some t
lower (Some s) t = cond (int_le s.offset t.offset) (Some s) (Some t)

-- the second term where it has this base and a lower offset, and else the first
abbrev pub lesser : Var → Option Term → Term → Option Term
lesser v o t = cond (base_eq (Some v) t.base) (lower o t) o

-- the least number, where there is one
abbrev pub least_number : List ℤ → Option ℤ
least_number [] = None
least_number (z ∷ zs) = Some (least z zs)

-- the base with the least of the offsets, where a term has this base
abbrev pub least_term : Var → List Term → Option Term
least_term v ts = option_map (λ (z : ℤ). record { base = Some v; offset = z }) (least_number (offsets_at v ts))
