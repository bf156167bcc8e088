use Rattle.std.proofs.Common.{◌∙◌, List, ap, flat_map, refl}
use Rattle.cyp_names.proofs.LesserFaults.{least_more, least_of_two}
use Rattle.cyp_names.specs.LeastFaults.{lesser_of}
use Rattle.cyp_names.specs.PredFaults.{size_faults}
use Rattle.cyp_names.specs.FaultOrder.{least_fault}
use Rattle.cyp_text.specs.declared.tree.ClauseTree.{ClauseTree}
use Rattle.cyp_spec.proofs.pred_limits.blocks_fault.Goals as goal

pub loop-clause-init : goal.loop-clause-init
loop-clause-init c =
    let q = c.args.pred.now in
    ap (λ (cs : List ClauseTree). lesser_of c.sizes_fault-least.result (least_fault (flat_map (λ (d : ClauseTree). size_faults d.body) cs))) c.as_slice-others.ensures
    ∙ least_of_two c.sizes_fault-least.result _ _ (size_faults q.first.body) (flat_map (λ (d : ClauseTree). size_faults d.body) q.others) c.sizes_fault-least.ensures refl refl

pub loop-clause-preserved : goal.loop-clause-preserved
loop-clause-preserved c =
    least_more (λ (d : ClauseTree). size_faults d.body) c.as_slice-others.result.now c.loop-clause.clause-index c.clause-item.result c.loop-clause.least c.sizes_fault.result c.lesser-least.result _
    c.loop-clause-test.true c.clause-item.is c.sizes_fault.ensures c.lesser-least.ensures c.loop-clause.invariant
