use Rattle.std.proofs.Common.{◌≡◌, false, map, take}
use Rattle.std.specs.List.{list_any}
use Rattle.cyp_pred.specs.Unfold.{unfold_clause, wide_unfolded}
use Rattle.cyp_pred.proofs.unfolding.unfold_clauses.Given as goal

abbrev pub invariant-loop-clause : goal.invariant-loop-clause
invariant-loop-clause l = record {
  made : l.entries.items ≡ map (unfold_clause l.inst l.next) (take l.clause-index l.clauses);
  narrow : list_any wide_unfolded (map (unfold_clause l.inst l.next) (take l.clause-index l.clauses)) ≡ false;
}
