use Rattle.std.proofs.Common.{refl}
use Rattle.cyp_term.specs.Images.{image_elems, image_of}
use Rattle.cyp_term.specs.Terms.{wide_term}
use Rattle.cyp_term.proofs.Turns.{appended_turn, untold_turn}
use Rattle.cyp_term.proofs.lit.SetTerm.image_elems.Goals as goal

pub loop-var-preserved : goal.loop-var-preserved
loop-var-preserved c =
    let by = c.args.by.now in
    let vars = c.as_slice-var-items.result.now in
    record {
      elems = appended_turn (λ v. (image_of by v).elems) (image_elems by) (λ v vs. refl) vars c.loop-var.var-index _ _ _ _ c.loop-var-test.true c.in_ok-add_image_elems.ensures.elems c.loop-var.invariant.elems;
      narrow = untold_turn (λ v. (image_of by v).elems) (image_elems by) (λ v vs. refl) wide_term vars c.loop-var.var-index _ _ c.loop-var-test.true c.in_ok-add_image_elems.ensures.narrow c.loop-var.invariant.narrow;
    }
