-- The procedure at a place of a program.
use Rattle.std.proofs.Common.{[], List, Some, ap, arith, get_or, length, map, refl, suc, sym, zero, ℕ, ◌<◌, ◌∙◌, ◌∷◌, ◌≡◌}
use Rattle.std.specs.Prelude.{slice_get}
use Rattle.cyp_prog.specs.Programs.{plain_proc}
use Rattle.cyp_prog.specs.declared.stmt.Proc.{Proc}

at_place : (xs : List Proc) (p : ℕ) (d : Proc) → p < length xs → slice_get (map plain_proc xs) p ≡ Some (plain_proc (get_or xs p d))
at_place [] p d l = absurd (omega arith)
at_place (x ∷ xs) zero d l = refl
at_place (x ∷ xs) (suc p) d l = at_place xs p d (omega arith)

pub called : (ps xs : List Proc) (p : ℕ) (d : Proc) → xs ≡ ps → p < length ps → slice_get (map plain_proc ps) p ≡ Some (plain_proc (get_or xs p d))
called ps xs p d e l = at_place ps p d l ∙ ap (λ (ys : List Proc). Some (plain_proc (get_or ys p d))) (sym e)
