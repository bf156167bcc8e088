use Rattle.std.proofs.Common.{IsTrue, ap, subst, sym, ◌∙◌}
use Rattle.cyp_heap.specs.Formed.{insts_fit}
use Rattle.cyp_heap.specs.declared.goal.Goal.{Goal}
use Rattle.cyp_heap.specs.declared.pred.Preds.{Preds}
use Rattle.cyp_step.specs.UnfoldParts.{opened_goal}
use Rattle.cyp_step.proofs.opening.open_premise.Goals as goal

pub new-requires : goal.new-requires
new-requires c =
    let whole = c.in_ok-goal.ensures ∙ ap (λ (g : Goal). opened_goal g c.args.place c.args.entry) c.goal.ensures.goal in
    let same = c.in_ok-preds.ensures ∙ c.preds.ensures.preds in
    subst (λ (p : Preds). IsTrue (insts_fit p c.in_ok-goal.goal)) (sym same) (subst (λ (g : Goal). IsTrue (insts_fit c.args.node.now.preds g)) (sym whole) c.requires.fits)
