use Rattle.std.proofs.Common.{◌≡◌, ◌++◌, map}
use Rattle.cyp_pred.specs.Unfold.{count_from}
use Rattle.cyp_step.specs.declared.rule.Rule.TheVariants.{ByClose}
use Rattle.cyp_unfold.proofs.ClauseTurns.{closings_from}
use Rattle.cyp_unfold.proofs.closes.closings.Given as goal

abbrev pub invariant-loop-clause : goal.invariant-loop-clause
invariant-loop-clause l = l.rules.items ++ closings_from l.count l.clause ≡ map ByClose (count_from 0 l.count)
