use Rattle.std.proofs.Common.{refl}
use Rattle.cyp_term.specs.Images.{image_of, image_vars}
use Rattle.cyp_term.specs.Terms.{var_eq}
use Rattle.cyp_term.proofs.Images.{AllSets_rest}
use Rattle.cyp_term.proofs.Turns.{added_turn}
use Rattle.cyp_term.proofs.lit.SetTerm.applied_vars.Goals as goal

pub loop-var-preserved : goal.loop-var-preserved
loop-var-preserved c =
    let by = c.args.by.now in
    let vars = c.as_slice-var-items.result.now in
    record {
      vars = added_turn (λ v. (image_of by v).vars) (image_vars by) (λ v vs. refl) var_eq vars c.loop-var.var-index _ _ _ _ c.loop-var-test.true c.in_ok-add_image_vars.ensures.vars c.loop-var.invariant.vars;
      made = c.in_ok-add_image_vars.ensures.sorts c.loop-var.invariant.made;
      left = AllSets_rest vars c.loop-var.var-index c.loop-var-test.true c.loop-var.invariant.left;
    }
