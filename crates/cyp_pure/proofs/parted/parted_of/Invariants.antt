use Rattle.std.proofs.Common.{◌≡◌, take}
use Rattle.std.specs.List.{All}
use Rattle.cyp_term.specs.Integers.{int_lits}
use Rattle.cyp_term.specs.Regions.{set_lits}
use Rattle.cyp_pure.specs.Sorts.{HasSorts}
use Rattle.cyp_pure.proofs.parted.parted_of.Given as goal

abbrev pub invariant-loop-lit : goal.invariant-loop-lit
invariant-loop-lit l = record {
  ints : l.ints.items ≡ int_lits (take l.lit-index l.lits);
  sets : l.sets.items ≡ set_lits (take l.lit-index l.lits);
  sorts : All HasSorts (take l.lit-index l.lits);
}
