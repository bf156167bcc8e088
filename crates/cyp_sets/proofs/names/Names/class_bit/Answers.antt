use Rattle.std.proofs.Common.{◌==◌, ◌^◌, ap, ◌∙◌, subst, arith}
use Rattle.cyp_sets.specs.Names.{IsFew, Named, place}
use Rattle.cyp_sets.proofs.Places.{read_bit}
use Rattle.cyp_sets.proofs.names.Names.class_bit.Goals as goal

pub overflow_cast-result : goal.overflow_cast-result
overflow_cast-result c =
    let few = subst IsFew c.self.view_is c.self.invariant in
    let small = (read_bit c.args.self.now few c.class_of.result c.as_slice.result.now c.class_place.result (c.as_slice.ensures.value ∙ ap (λ (n : Named). n.kinds) c.self.view_is) c.class_place.ensures).0 in
    omega arith

pub overflow_shl-result : goal.overflow_shl-result
overflow_shl-result c =
    let few = subst IsFew c.self.view_is c.self.invariant in
    (read_bit c.args.self.now few c.class_of.result c.as_slice.result.now c.class_place.result (c.as_slice.ensures.value ∙ ap (λ (n : Named). n.kinds) c.self.view_is) c.class_place.ensures).0

pub returns : goal.returns
returns c =
    let few = subst IsFew c.self.view_is c.self.invariant in
    (read_bit c.args.self.now few c.class_of.result c.as_slice.result.now c.class_place.result (c.as_slice.ensures.value ∙ ap (λ (n : Named). n.kinds) c.self.view_is) c.class_place.ensures).1
    ∙ ap (λ k. 2 ^ place ◌==◌ c.args.self.now.kinds k) c.class_of.ensures
