use Rattle.std.proofs.Common.{◌≡◌, inl, inr, pos, ◌≤ℤ◌, ◌<ℤ◌, to_z, of_z, w64, rules, FitsSigned, subst, ◌∙◌, arith}
use Rattle.std.proofs.lemmas.Int.{ints, to_z-of_z}
use Rattle.cyp_diff.specs.Distances.{distance}
use Rattle.cyp_diff.proofs.Crowding.{near_from, at_most}
use Rattle.cyp_diff.proofs.crowds.is_near.Goals as goal

pub returns-then-max-most : goal.returns-then-max-most
returns-then-max-most c t x m h =
    let fits_there : FitsSigned w64 c.distance-there.result = search rules in
    let fits_back : FitsSigned w64 c.distance-back.result = search rules in
    let fits : FitsSigned w64 c.max.result = search rules in
    let least : c.max.result ≤ℤ c.args.most = at_most c.max.result c.args.most fits c.ranges.most c.if-max-most.true in
    let there : to_z w64 (of_z w64 c.distance-there.result) ≡ distance c.args.bounds.now c.args.u c.args.v = to_z-of_z w64 c.distance-there.result fits_there ∙ c.distance-there.ensures.value in
    let back : to_z w64 (of_z w64 c.distance-back.result) ≡ distance c.args.bounds.now c.args.v c.args.u = to_z-of_z w64 c.distance-back.result fits_back ∙ c.distance-back.ensures.value in
    let there_most : distance c.args.bounds.now c.args.u c.args.v ≤ℤ c.max.result = subst (λ z. z ≤ℤ c.max.result) there c.max.ensures.self_bound in
    let back_most : distance c.args.bounds.now c.args.v c.args.u ≤ℤ c.max.result = subst (λ z. z ≤ℤ c.max.result) back c.max.ensures.other_bound in
    near_from c.args.bounds.now x c.args.u c.args.v c.args.most c.requires.first c.requires.second c.requires.most (omega (arith, ints)) (omega (arith, ints)) m
    (elim (c.is_apart.ensures t) [ inl d ↦ inl (h d) | inr (inl d) ↦ inr (inl (subst (λ z. z <ℤ pos 0) there d)) | inr (inr d) ↦ inr (inr (subst (λ z. z <ℤ pos 0) back d)) ])
