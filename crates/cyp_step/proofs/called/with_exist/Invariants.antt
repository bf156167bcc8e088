use Rattle.std.proofs.Common.{◌≡◌, drop}
use Rattle.cyp_step.specs.Calling.{with_exist}
use Rattle.cyp_step.proofs.called.with_exist.Given as goal

abbrev pub invariant-loop-var : goal.invariant-loop-var
invariant-loop-var l = with_exist l.next (drop l.var-index l.exist) l.by ≡ with_exist l.fn.next l.exist l.fn.by
