use Rattle.std.proofs.Common.{◌≡◌, drop}
use Rattle.cyp_names.specs.NameFaults.{known_sort}
use Rattle.cyp_names.proofs.sorts.known_sort.Given as goal

abbrev pub invariant-loop-used : goal.invariant-loop-used
invariant-loop-used l = known_sort (drop l.used-index l.uses) l.name.text ≡ known_sort l.uses l.name.text
