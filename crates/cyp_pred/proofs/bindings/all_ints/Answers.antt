use Rattle.std.proofs.Common.{◌∙◌, arith}
use Rattle.cyp_pred.proofs.Bound.{all_ints_are}
use Rattle.cyp_pred.specs.Unfold.{int_args, own_ints}
use Rattle.cyp_pred.proofs.bindings.all_ints.Goals as goal

pub add_new_ints-requires-clause-numbers : goal.add_new_ints-requires-clause-numbers
add_new_ints-requires-clause-numbers c = omega (arith, c.count_ints-number.ensures.value, c.own_ints.ensures.fits)

pub returns : goal.returns
returns c =
    c.from_vec.ensures
    ∙ all_ints_are c.in_ok-binds.binds.items c.add_new_ints.new.binds.items (int_args c.args.args.now) c.count_ints-number.result c.own_ints.result (own_ints c.args.args.now c.args.clause.now) c.args.next.ints
    c.in_ok-binds.ensures c.count_ints-number.ensures.value c.own_ints.ensures.value c.in_ok-add_new_ints.ensures
