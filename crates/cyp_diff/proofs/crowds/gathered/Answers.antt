use Rattle.std.proofs.Common.{ℤ, pos, ◌+◌, ◌≤ℤ◌, to_z, of_z, w64, sym, subst₂, ◌∙◌, arith}
use Rattle.std.proofs.lemmas.Int.{ints}
use Rattle.cyp_diff.proofs.Crowding.{Gathers, gathers_one, gathers_more, one_more}
use Rattle.cyp_diff.proofs.crowds.gathered.Goals.{then-kept-m, else-kept-m}
use Rattle.cyp_diff.proofs.crowds.gathered.Goals as goal

pub loop-m-init : goal.loop-m-init
loop-m-init c = (gathers_one c.args.bounds.now c.args.gaps.now _ c.nearer-kept.result c.args.first c.nearer-kept.ensures.near, omega (arith, ints))

pub loop-m-preserved : goal.loop-m-preserved
loop-m-preserved c =
    let most : ℤ = to_z w64 (of_z w64 c.args.most) in
    elim c.if-kept-m.branch [
      | then-kept-m w ↦
          subst₂ (λ kept count. Gathers c.args.bounds.now c.args.gaps.now most kept count × (count ≤ℤ pos (c.loop-m.m + 1 + 1))) (sym w.kept-is)
          (sym (w.count-is ∙ one_more c.args.bounds.now c.args.gaps.now most c.loop-m.kept (to_z w64 c.loop-m.count-bits) c.loop-m.m c.loop-m.invariant.0 c.loop-m.invariant.1 (omega (arith, c.loop-m-test.true, c.places-m-end.type_inv)))) (
            gathers_more c.args.bounds.now c.args.gaps.now most c.loop-m.kept w.nearer-kept-then-kept-m.result (to_z w64 c.loop-m.count-bits) c.loop-m.m c.loop-m.invariant.0 w.if-kept-m.true
                w.nearer-kept-then-kept-m.ensures.old w.nearer-kept-then-kept-m.ensures.near,
            (let l : to_z w64 c.loop-m.count-bits ≤ℤ pos (c.loop-m.m + 1) = c.loop-m.invariant.1 in omega (arith, ints)),
          )
      | else-kept-m w ↦
          subst₂ (λ kept count. Gathers c.args.bounds.now c.args.gaps.now most kept count × (count ≤ℤ pos (c.loop-m.m + 1 + 1))) (sym w.kept-is) (sym w.count-is)
          (c.loop-m.invariant.0, (let l : to_z w64 c.loop-m.count-bits ≤ℤ pos (c.loop-m.m + 1) = c.loop-m.invariant.1 in omega (arith, ints)))
    ]
