use Rattle.std.proofs.Common.{◌≡◌, map, take}
use Rattle.cyp_names.specs.ReadTerms.{use_var}
use Rattle.cyp_names.specs.Uses.{param_uses}
use Rattle.cyp_reading.proofs.goals.param_vars.Given as goal

abbrev pub invariant-loop-param : goal.invariant-loop-param
invariant-loop-param l = l.vars.items ≡ map (use_var l.scope) (param_uses (take l.param-index l.params))
