use Rattle.std.proofs.Common.{◌≡◌, ◌++◌, drop, filter, map}
use Rattle.cyp_step.specs.UnfoldParts.{same_set}
use Rattle.cyp_term.specs.Terms.{is_set_var}
use Rattle.cyp_step.proofs.identity.set_binds.Given as goal

abbrev pub invariant-loop-var : goal.invariant-loop-var
invariant-loop-var l = l.binds.items ++ map same_set (filter is_set_var (drop l.var-index l.vars)) ≡ map same_set (filter is_set_var l.vars)
