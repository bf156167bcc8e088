use Rattle.std.proofs.Common.{◌≡◌, drop, false}
use Rattle.cyp_term.specs.Terms.{wide_subst}
use Rattle.cyp_unify.specs.Matches.{all_bound}
use Rattle.cyp_unify.proofs.binding.bind_all.Given as goal

abbrev pub invariant-loop-var : goal.invariant-loop-var
invariant-loop-var l = record {
  same : all_bound l.map l.by (drop l.var-index l.vars) ≡ all_bound l.map l.initial.by l.vars;
  narrow : wide_subst l.by ≡ false;
}
