use Rattle.std.proofs.Common.{◌≡◌, false, map, take}
use Rattle.std.specs.List.{list_any}
use Rattle.cyp_term.specs.Terms.{apply_lit, wide_lit}
use Rattle.cyp_step.proofs.applying.apply_lits.Given as goal

abbrev pub invariant-loop-lit : goal.invariant-loop-lit
invariant-loop-lit l = record {
  made : l.applied.items ≡ map (apply_lit l.by) (take l.lit-index l.lits);
  narrow : list_any wide_lit (map (apply_lit l.by) (take l.lit-index l.lits)) ≡ false;
}
