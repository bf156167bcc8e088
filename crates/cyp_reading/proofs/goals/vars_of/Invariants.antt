use Rattle.std.proofs.Common.{◌≡◌, map, take}
use Rattle.cyp_names.specs.ReadTerms.{use_var}
use Rattle.cyp_reading.proofs.goals.vars_of.Given as goal

abbrev pub invariant-loop-name : goal.invariant-loop-name
invariant-loop-name l = l.vars.items ≡ map (use_var l.scope) (take l.name-index l.names)
