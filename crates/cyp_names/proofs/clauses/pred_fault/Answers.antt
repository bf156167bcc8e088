use Rattle.std.proofs.Common.{List, [], ap, flat_map, ◌++◌, ◌∙◌}
use Rattle.cyp_names.proofs.LesserFaults.{least_of_two}
use Rattle.cyp_names.specs.NameFaults.{clause_faults, param_names, repeats}
use Rattle.cyp_names.specs.FaultOrder.{least_fault}
use Rattle.cyp_text.specs.declared.tree.ParamTree.{ParamTree}
use Rattle.cyp_names.proofs.clauses.pred_fault.Goals as goal

pub returns : goal.returns
returns c =
    let preds = c.args.preds.now in
    let pred = c.args.pred.now in
    let faults = clause_faults preds pred.params in
    let others = flat_map faults pred.others in
    least_of_two c.first_repeat-of_params.result c.lesser.result c.lesser-2.result (repeats [] (param_names pred.params)) (faults pred.first ++ others)
    (c.first_repeat-of_params.ensures ∙ ap (λ (ps : List ParamTree). least_fault (repeats [] (param_names ps))) c.as_slice-params.ensures)
    (least_of_two c.in_ok-of_first.of_first c.in_ok-of_others.of_others c.lesser.result (faults pred.first) others
    (c.in_ok-of_first.ensures ∙ ap (λ (ps : List ParamTree). least_fault (clause_faults preds ps pred.first)) c.as_slice-params.ensures)
    (c.in_ok-of_others.ensures ∙ (λ i. least_fault (flat_map (clause_faults preds (c.as_slice-params.ensures i)) (c.as_slice.ensures i))))
    c.lesser.ensures)
    c.lesser-2.ensures
