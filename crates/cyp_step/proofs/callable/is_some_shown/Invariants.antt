use Rattle.std.proofs.Common.{◌≡◌, drop}
use Rattle.std.specs.List.{list_any}
use Rattle.cyp_step.specs.Shown.{shown}
use Rattle.cyp_step.proofs.callable.is_some_shown.Given as goal

abbrev pub invariant-loop-lits : goal.invariant-loop-lits
invariant-loop-lits l = list_any (shown l.goal) (drop l.lits-index l.entries) ≡ list_any (shown l.goal) l.entries
