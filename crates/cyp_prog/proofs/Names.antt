-- The names of procedures by their places.
use Rattle.std.proofs.Common.{◌≡◌, ℕ, zero, suc, List, [], ◌∷◌, map, refl}
use Rattle.std.specs.Prelude.{slice_get}
use Rattle.cyp_prog.specs.PrintedLists.{proc_name}
use Rattle.cyp_prog.specs.ProgramText.{name_at}
use Rattle.cyp_prog.specs.Programs.{plain_proc}
use Rattle.cyp_prog.specs.Rules.{names_of}
use Rattle.cyp_prog.specs.declared.stmt.Proc.{Proc}

pub name_of_place : (ps : List Proc) (k : ℕ) → name_at (names_of (map plain_proc ps)) k ≡ proc_name (slice_get ps k)
name_of_place [] k = refl
name_of_place (p ∷ ps) zero = refl
name_of_place (p ∷ ps) (suc k) = name_of_place ps k
