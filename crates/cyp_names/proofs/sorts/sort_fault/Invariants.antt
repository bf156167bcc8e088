use Rattle.std.proofs.Common.{◌≡◌, drop}
use Rattle.cyp_names.specs.LeastFaults.{lesser_of}
use Rattle.cyp_names.specs.NameFaults.{sort_faults}
use Rattle.cyp_names.specs.FaultOrder.{least_fault}
use Rattle.cyp_names.proofs.sorts.sort_fault.Given as goal

abbrev pub invariant-loop-used : goal.invariant-loop-used
invariant-loop-used l =
    lesser_of l.found (least_fault (sort_faults l.seen.items (drop l.used-index l.uses))) ≡ least_fault (sort_faults l.initial.seen.items l.uses)
