use Rattle.std.proofs.Common.{◌≡◌, drop, flat_map}
use Rattle.cyp_names.specs.LeastFaults.{lesser_of}
use Rattle.cyp_names.specs.NameFaults.{clause_faults}
use Rattle.cyp_names.specs.FaultOrder.{least_fault}
use Rattle.cyp_names.proofs.clauses.clauses_fault.Given as goal

abbrev pub invariant-loop-clause : goal.invariant-loop-clause
invariant-loop-clause l = lesser_of l.found (least_fault (flat_map (clause_faults l.preds l.params) (drop l.clause-index l.clauses))) ≡ least_fault (flat_map (clause_faults l.preds l.params) l.clauses)
