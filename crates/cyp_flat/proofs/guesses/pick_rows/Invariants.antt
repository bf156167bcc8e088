use Rattle.std.proofs.Common.{◌≡◌, ◌++◌, drop, map}
use Rattle.cyp_step.specs.Rows.{rows}
use Rattle.cyp_step.specs.declared.rule.Rule.TheVariants.{ByPick}
use Rattle.cyp_flat.specs.FlatRows.{pick_rows}
use Rattle.cyp_flat.proofs.guesses.pick_rows.Given as goal

abbrev pub invariant-loop-var : goal.invariant-loop-var
invariant-loop-var l = l.table.items ++ rows l.node (map (λ v. ByPick v) (drop l.var-index l.var-items)) ≡ pick_rows l.node
