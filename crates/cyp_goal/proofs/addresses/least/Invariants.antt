use Rattle.std.proofs.Common.{◌≡◌, take}
use Rattle.cyp_goal.specs.Least.{least_term}
use Rattle.cyp_goal.proofs.addresses.least.Given as goal

abbrev pub invariant-loop-term : goal.invariant-loop-term
invariant-loop-term l = l.best ≡ least_term l.var (take l.term-index l.terms)
