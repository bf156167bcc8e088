use Rattle.std.proofs.Common.{◌≡◌, drop}
use Rattle.cyp_term.specs.Terms.{var_eq, with_all_new}
use Rattle.cyp_term.proofs.once.add_vars.Given as goal

abbrev pub invariant-loop-var : goal.invariant-loop-var
invariant-loop-var l = with_all_new var_eq l.vars.items (drop l.var-index l.more) ≡ with_all_new var_eq l.initial.vars.items l.more
