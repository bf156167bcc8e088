use Rattle.std.proofs.Common.{[], flat_map, map, ◌++◌, ◌∙◌}
use Rattle.cyp_names.proofs.LesserFaults.{least_of_two}
use Rattle.cyp_names.specs.NameFaults.{pred_faults, proc_faults, repeats}
use Rattle.cyp_names.specs.FaultOrder.{least_fault}
use Rattle.cyp_text.specs.declared.tree.PredTree.{PredTree}
use Rattle.cyp_names.proofs.name_faults.name_fault.Goals as goal

pub returns : goal.returns
returns c =
    let tree = c.args.tree.now in
    let names = repeats [] (map (λ (q : PredTree). q.name) tree.preds) in
    let preds = flat_map (pred_faults tree.preds) tree.preds in
    least_of_two c.lesser.result c.in_ok-of_procedure.of_procedure c.lesser-2.result (names ++ preds) (proc_faults tree)
    (least_of_two c.first_repeat-of_names.result c.in_ok-of_preds.of_preds c.lesser.result names preds
    (c.first_repeat-of_names.ensures ∙ (λ i. least_fault (repeats [] (map (λ (q : PredTree). q.name) (c.as_slice-preds.ensures i)))))
    (c.in_ok-of_preds.ensures ∙ (λ i. least_fault (flat_map (pred_faults (c.as_slice-preds.ensures i)) (c.as_slice-preds.ensures i))))
    c.lesser.ensures)
    c.in_ok-of_procedure.ensures c.lesser-2.ensures
