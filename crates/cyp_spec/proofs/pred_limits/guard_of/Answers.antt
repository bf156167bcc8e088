use Rattle.std.proofs.Common.{◌∙◌, ap}
use Rattle.cyp_spec.proofs.ClauseSteps.{few_within_at, guard_at, int_guard_at}
use Rattle.cyp_names.specs.ReadTerms.{Scope, read_lit}
use Rattle.cyp_spec.proofs.pred_limits.guard_of.Goals as goal

pub read_lit-requires : goal.read_lit-requires
read_lit-requires c =
    let r = c.requires in
    record {
      few = few_within_at c.args.preds.now c.args.params.now c.args.clause.now c.in_ok-scope.scope c.in_ok-scope.ensures r.once r.right r.within;
      readable = guard_at c.args.preds.now c.args.params.now c.args.clause.now c.in_ok-scope.scope c.in_ok-scope.ensures r.once r.right r.small;
    }

pub returns-clause-guard : goal.returns-clause-guard
returns-clause-guard c = c.in_ok-guard.ensures ∙ ap (λ (s : Scope). read_lit s c.args.clause.now.guard) c.in_ok-scope.ensures

pub returns-clause-ints : goal.returns-clause-ints
returns-clause-ints c =
    int_guard_at c.args.preds.now c.args.params.now c.args.clause.now c.in_ok-scope.scope c.in_ok-scope.ensures c.requires.once c.requires.right c.in_ok-guard.guard c.in_ok-guard.ensures
