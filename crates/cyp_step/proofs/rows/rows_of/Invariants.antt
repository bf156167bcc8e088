use Rattle.std.proofs.Common.{◌≡◌, ◌++◌}
use Rattle.std.specs.Vec.Iter.{into_iter_items}
use Rattle.cyp_step.specs.Rows.{rows}
use Rattle.cyp_step.proofs.rows.rows_of.Given as goal

abbrev pub invariant-loop-rule : goal.invariant-loop-rule
invariant-loop-rule l = l.table.items ++ rows l.node (into_iter_items l.rule-iterator) ≡ rows l.node l.fn.rules
