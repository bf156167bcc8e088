use Rattle.std.proofs.Common.{◌≡◌, ◌++◌, drop, false, map}
use Rattle.std.specs.List.{list_any}
use Rattle.cyp_term.specs.Terms.{wide_lit}
use Rattle.cyp_unify.specs.Meeting.{late_lit}
use Rattle.cyp_unify.proofs.binding.with_late.Given as goal

abbrev pub invariant-loop-from : goal.invariant-loop-from
invariant-loop-from l = record {
  same : l.need ++ map (late_lit l.by) (drop l.from-index l.late) ≡ l.initial.need ++ map (late_lit l.by) l.late;
  narrow : list_any wide_lit l.need ≡ false;
}
