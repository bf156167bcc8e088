use Rattle.std.proofs.Common.{◌≡◌, map, take}
use Rattle.cyp_names.specs.Uses.{param_sort}
use Rattle.cyp_reading.proofs.clauses.read_sorts.Given as goal

abbrev pub invariant-loop-param : goal.invariant-loop-param
invariant-loop-param l = l.sorts.items ≡ map param_sort (take l.param-index l.params)
