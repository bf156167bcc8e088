use Rattle.std.proofs.Common.{map}
use Rattle.cyp_names.proofs.EachKind.{arg_added}
use Rattle.cyp_names.specs.Orders.{parts_in}
use Rattle.cyp_names.specs.Uses.{param_sort}
use Rattle.cyp_names.proofs.body_uses.add_args.Goals as goal

pub loop-place-preserved : goal.loop-place-preserved
loop-place-preserved c =
    arg_added (parts_in c.args.order) (map param_sort c.args.params.now) c.args.args.now c.loop-place.place c.index-args-place.result c.sort_at.result
    c.loop-place.uses.items c.add_arg.new.uses.items _ c.loop-place-test.true c.index-args-place.is c.sort_at.ensures c.in_ok-add_arg.ensures
    c.loop-place.invariant
