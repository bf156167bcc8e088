use Rattle.std.proofs.Common.{[], ◌∷◌, ◌++◌, ◌∙◌, ap}
use Rattle.cyp_pred.proofs.Tagged.{below_turn}
use Rattle.cyp_term.specs.declared.lit.Lit.{Lit}
use Rattle.cyp_pred.proofs.subinstances.add_all_below.Goals as goal

pub loop-k-preserved : goal.loop-k-preserved
loop-k-preserved c =
    below_turn c.args.above c.loop-k.lits.items c.push.new.self.items _ c.args.first c.loop-k.k c.args.count c.loop-k-test.true
    (c.in_ok-push.ensures.items ∙ ap (λ (b : Lit). c.loop-k.lits.items ++ b ∷ []) c.below.ensures) c.loop-k.invariant
