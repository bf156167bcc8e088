use Rattle.std.proofs.Common.{◌≡◌, [], drop}
use Rattle.std.specs.Prelude.{IsTrue}
use Rattle.std.specs.List.{All}
use Rattle.cyp_names.specs.LeastFaults.{lesser_of}
use Rattle.cyp_term.specs.Integers.{is_int_lit}
use Rattle.cyp_names.specs.PredFaults.{guard_of, overlap_faults}
use Rattle.cyp_names.specs.NameFaults.{clauses}
use Rattle.cyp_names.specs.FaultOrder.{least_fault}
use Rattle.cyp_spec.proofs.pred_limits.guards_fault.Given as goal

abbrev pub invariant-loop-clause : goal.invariant-loop-clause
invariant-loop-clause l = record {
  made : lesser_of l.least (least_fault (overlap_faults (guard_of l.preds l.pred.params) l.seen.items (drop l.clause-index l.others)))
      ≡ least_fault (overlap_faults (guard_of l.preds l.pred.params) [] (clauses l.pred));
  ints : All (λ g. IsTrue (is_int_lit g)) l.seen.items;
}
