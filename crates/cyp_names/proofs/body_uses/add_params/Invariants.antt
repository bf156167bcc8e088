use Rattle.std.proofs.Common.{◌≡◌, ◌++◌, drop}
use Rattle.cyp_names.specs.Uses.{param_uses}
use Rattle.cyp_names.proofs.body_uses.add_params.Given as goal

abbrev pub invariant-loop-param : goal.invariant-loop-param
invariant-loop-param l = l.uses.items ++ param_uses (drop l.param-index l.params) ≡ l.initial.uses.items ++ param_uses l.params
