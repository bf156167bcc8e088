use Rattle.std.proofs.Common.{◌≡◌, drop}
use Rattle.std.specs.List.{list_all}
use Rattle.cyp_goal.specs.Alive.{is_alive}
use Rattle.cyp_goal.proofs.pruning.are_vars_alive.Given as goal

abbrev pub invariant-loop-var : goal.invariant-loop-var
invariant-loop-var l = list_all (is_alive l.live l.dropped) (drop l.var-index l.vars) ≡ list_all (is_alive l.live l.dropped) l.vars
