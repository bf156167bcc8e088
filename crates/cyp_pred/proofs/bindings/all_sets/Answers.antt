use Rattle.std.proofs.Common.{◌∙◌, arith}
use Rattle.cyp_pred.proofs.Bound.{all_sets_are}
use Rattle.cyp_pred.specs.Unfold.{set_args, own_sets}
use Rattle.cyp_pred.proofs.bindings.all_sets.Goals as goal

pub add_new_sets-requires-clause-numbers : goal.add_new_sets-requires-clause-numbers
add_new_sets-requires-clause-numbers c = omega (arith, c.count_sets-number.ensures.value, c.own_sets.ensures.fits)

pub returns : goal.returns
returns c =
    c.from_vec.ensures
    ∙ all_sets_are c.in_ok-binds.binds.items c.add_new_sets.new.binds.items (set_args c.args.args.now) c.count_sets-number.result c.own_sets.result (own_sets c.args.args.now c.args.clause.now) c.args.next.sets
    c.in_ok-binds.ensures c.count_sets-number.ensures.value c.own_sets.ensures.value c.in_ok-add_new_sets.ensures
