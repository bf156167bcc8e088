use Rattle.std.proofs.Common.{[], ◌∷◌, ◌++◌, ◌+◌, ◌∙◌, ap}
use Rattle.cyp_pred.proofs.Bound.{new_set_turn}
use Rattle.cyp_term.specs.declared.subst.SetBind.{SetBind}
use Rattle.cyp_term.specs.declared.term.Sort.TheVariants.{Set}
use Rattle.cyp_pred.proofs.bindings.add_new_sets.Goals as goal

pub loop-k-preserved : goal.loop-k-preserved
loop-k-preserved c =
    new_set_turn c.loop-k.binds.items c.push.new.self.items _ c.args.number c.args.first c.loop-k.k c.args.count c.loop-k-test.true
    (c.in_ok-push.ensures.items ∙ ap (λ (b : SetBind). c.loop-k.binds.items ++ b ∷ []) (c.set_bind.ensures ∙ ap (λ t. record { var = record { sort = Set; number = c.args.number + c.loop-k.k }; to = t }) c.in_ok-to.ensures)) c.loop-k.invariant
