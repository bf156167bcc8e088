use Rattle.std.proofs.Common.{◌≡◌, drop, map}
use Rattle.cyp_names.specs.LeastFaults.{lesser_of}
use Rattle.cyp_names.specs.NameFaults.{arg_faults}
use Rattle.cyp_names.specs.FaultOrder.{least_fault}
use Rattle.cyp_names.specs.Uses.{param_sort}
use Rattle.cyp_names.proofs.instances.args_fault.Given as goal

abbrev pub invariant-loop-place : goal.invariant-loop-place
invariant-loop-place l =
    lesser_of l.found (least_fault (arg_faults (map param_sort (drop l.place l.params)) (drop l.place l.args))) ≡ least_fault (arg_faults (map param_sort l.params) l.args)
