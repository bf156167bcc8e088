use Rattle.std.specs.Vec.Iter.{into_iter_items}
use Rattle.cyp_step.proofs.TableRows.{first_added}
use Rattle.cyp_step.proofs.rows.rows_of.Goals as goal

pub loop-rule-preserved : goal.loop-rule-preserved
loop-rule-preserved c =
    first_added c.args.node.now c.in-Some.rule (into_iter_items c.next.new.self) _ _ _ _ c.in-Some.ensures.steps.0 c.loop-rule.invariant c.in_ok-add_row.ensures
