use Rattle.std.proofs.Common.{◌≡◌, drop, flat_map}
use Rattle.cyp_names.specs.LeastFaults.{lesser_of}
use Rattle.cyp_names.specs.PredFaults.{size_faults}
use Rattle.cyp_names.specs.NameFaults.{clauses}
use Rattle.cyp_names.specs.FaultOrder.{least_fault}
use Rattle.cyp_text.specs.declared.tree.ClauseTree.{ClauseTree}
use Rattle.cyp_spec.proofs.pred_limits.blocks_fault.Given as goal

abbrev pub invariant-loop-clause : goal.invariant-loop-clause
invariant-loop-clause l =
    lesser_of l.least (least_fault (flat_map (λ (c : ClauseTree). size_faults c.body) (drop l.clause-index l.others)))
    ≡ least_fault (flat_map (λ (c : ClauseTree). size_faults c.body) (clauses l.pred))
