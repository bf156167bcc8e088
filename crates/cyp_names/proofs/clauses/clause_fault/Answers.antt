use Rattle.std.proofs.Common.{List, ap, flat_map, ◌++◌, ◌∙◌}
use Rattle.cyp_names.proofs.LesserFaults.{least_of_two}
use Rattle.cyp_names.specs.LeastFaults.{clause_sorts}
use Rattle.cyp_names.specs.NameFaults.{chunk_faults, guard_faults}
use Rattle.cyp_names.specs.FaultOrder.{least_fault}
use Rattle.cyp_text.specs.declared.tree.ChunkTree.{ChunkTree}
use Rattle.cyp_names.proofs.clauses.clause_fault.Goals as goal

pub returns : goal.returns
returns c =
    let preds = c.args.preds.now in
    let params = c.args.params.now in
    let clause = c.args.clause.now in
    let guard = guard_faults params clause.guard in
    let sorts = clause_sorts preds params clause in
    least_of_two c.lesser.result c.chunks_fault-of_instances.result c.lesser-2.result (guard ++ sorts) (flat_map (chunk_faults preds) clause.body.chunks)
    (least_of_two c.in_ok-of_guard.of_guard c.in_ok-of_sorts.of_sorts c.lesser.result guard sorts c.in_ok-of_guard.ensures c.in_ok-of_sorts.ensures c.lesser.ensures)
    (c.chunks_fault-of_instances.ensures ∙ ap (λ (cs : List ChunkTree). least_fault (flat_map (chunk_faults preds) cs)) c.as_slice.ensures)
    c.lesser-2.ensures
