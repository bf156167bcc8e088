use Rattle.std.proofs.Common.{arith, length, ◌<◌}
use Rattle.cyp_names.proofs.ArgFaults.{args_more}
use Rattle.cyp_names.proofs.instances.args_fault.Goals as goal

pub loop-place-preserved : goal.loop-place-preserved
loop-place-preserved c =
    let below : c.loop-place.place < length c.args.params.now = omega (arith, c.requires, c.loop-place-test.true) in
    args_more c.args.params.now c.args.args.now c.loop-place.place c.index-params-place.result c.index-args-place.result c.param_sort.result c.loop-place.found
    c.arg_fault.result c.lesser-found.result _ below c.loop-place-test.true c.index-params-place.is c.index-args-place.is c.param_sort.ensures c.arg_fault.ensures
    c.lesser-found.ensures c.loop-place.invariant
