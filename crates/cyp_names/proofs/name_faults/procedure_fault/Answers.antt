use Rattle.std.proofs.Common.{[], ap, flat_map, sym, ◌++◌, ◌∙◌}
use Rattle.std.proofs.lemmas.Grind.{flat_map-append}
use Rattle.cyp_names.proofs.LesserFaults.{least_of_two}
use Rattle.cyp_names.specs.LeastFaults.{proc_sorts}
use Rattle.cyp_names.specs.NameFaults.{chunk_faults, param_names, repeats, set_param_fault}
use Rattle.cyp_names.specs.FaultOrder.{least_fault}
use Rattle.cyp_names.proofs.name_faults.procedure_fault.Goals as goal

pub returns : goal.returns
returns c =
    let tree = c.args.tree.now in
    let names = repeats [] (param_names tree.params) in
    let sets = flat_map set_param_fault tree.params in
    let sorts = proc_sorts tree in
    let faults = chunk_faults tree.preds in
    let pre = tree.pre.chunks in
    let post = tree.post.chunks in
    least_of_two c.lesser.result c.lesser-2.result c.lesser-3.result (names ++ sets ++ sorts) (flat_map faults (pre ++ post))
    (least_of_two c.lesser-of_params.result c.in_ok-of_sorts.of_sorts c.lesser.result (names ++ sets) sorts
    (least_of_two c.first_repeat.result c.set_params_fault.result c.lesser-of_params.result names sets
    (c.first_repeat.ensures ∙ (λ i. least_fault (repeats [] (param_names (c.as_slice-params.ensures i)))))
    (c.set_params_fault.ensures ∙ (λ i. least_fault (flat_map set_param_fault (c.as_slice-params.ensures i))))
    c.lesser-of_params.ensures)
    c.in_ok-of_sorts.ensures c.lesser.ensures)
    (least_of_two c.chunks_fault-of_pre.result c.chunks_fault-of_post.result c.lesser-2.result (flat_map faults pre) (flat_map faults post)
    (c.chunks_fault-of_pre.ensures ∙ (λ i. least_fault (flat_map (chunk_faults (c.as_slice-preds.ensures i)) (c.as_slice.ensures i))))
    (c.chunks_fault-of_post.ensures ∙ (λ i. least_fault (flat_map (chunk_faults (c.as_slice-preds.ensures i)) (c.as_slice-2.ensures i))))
    c.lesser-2.ensures
    ∙ ap least_fault (sym (flat_map-append faults pre post)))
    c.lesser-3.ensures
