use Rattle.std.proofs.Common.{◌≡◌, drop, flat_map}
use Rattle.cyp_names.specs.LeastFaults.{lesser_of}
use Rattle.cyp_names.specs.NameFaults.{unbound_fault}
use Rattle.cyp_names.specs.FaultOrder.{least_fault}
use Rattle.cyp_names.proofs.clauses.unbound_faults.Given as goal

abbrev pub invariant-loop-used : goal.invariant-loop-used
invariant-loop-used l = lesser_of l.found (least_fault (flat_map (unbound_fault l.params) (drop l.used-index l.uses))) ≡ least_fault (flat_map (unbound_fault l.params) l.uses)
