-- The literals of a list, parted by their kind.
use Rattle.std.specs.Prelude.{◌≡◌, List}
use Rattle.std.specs.List.{All}
use Rattle.cyp_term.specs.declared.lit.Lit.{Lit}
use Rattle.cyp_term.specs.Integers.{int_lits}
use Rattle.cyp_term.specs.Regions.{set_lits}
use Rattle.cyp_pure.specs.Sorts.{HasSorts}
use Rattle.cyp_pure.specs.declared.parted.Parted.{Parted}

-- the literals of integers and those of sets, each in their order
pub record IsParted (ls : List Lit) (p : Parted) : Type 0 where
  pub ints : p.ints ≡ int_lits ls
  pub sets : p.sets ≡ set_lits ls
  pub sorts : All HasSorts ls
