use Rattle.std.proofs.Common.{◌≡◌, take}
use Rattle.cyp_term.specs.Terms.{var_eq, with_all_new}
use Rattle.cyp_pure.proofs.seen.add_vars.Given as goal

abbrev pub invariant-loop-var : goal.invariant-loop-var
invariant-loop-var l = l.vars.items ≡ with_all_new var_eq l.initial.vars.items (take l.var-index l.more)
