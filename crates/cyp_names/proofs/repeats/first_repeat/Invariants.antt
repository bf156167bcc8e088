use Rattle.std.proofs.Common.{[], ◌≡◌, drop, map, take}
use Rattle.cyp_names.specs.LeastFaults.{lesser_of}
use Rattle.cyp_names.specs.NameFaults.{repeats}
use Rattle.cyp_names.specs.FaultOrder.{least_fault}
use Rattle.cyp_names.proofs.repeats.first_repeat.Given as goal

abbrev pub invariant-loop-place : goal.invariant-loop-place
invariant-loop-place g l =
    lesser_of l.found (least_fault (repeats (map g.T.Declares.declared (take l.place l.items)) (map g.T.Declares.declared (drop l.place l.items))))
    ≡ least_fault (repeats [] (map g.T.Declares.declared l.items))
