use Rattle.std.proofs.Common.{◌+◌, ◌≡◌, ◌≤◌, drop}
use Rattle.cyp_names.specs.ReadTerms.{rank_of}
use Rattle.cyp_names.proofs.scope.Scope.rank.Given as goal

abbrev pub invariant-loop-other : goal.invariant-loop-other
invariant-loop-other l = record {
  counted : l.rank + rank_of l.sort (drop l.other-index l.other-items) l.name ≡ rank_of l.sort l.other-items l.name;
  within : l.rank ≤ l.other-index;
}
