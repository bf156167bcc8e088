use Rattle.std.proofs.Common.{[], ◌∷◌, ◌++◌, ◌+◌, ◌∙◌, ap}
use Rattle.cyp_pred.proofs.Bound.{new_int_turn}
use Rattle.cyp_term.specs.declared.subst.IntBind.{IntBind}
use Rattle.cyp_term.specs.declared.term.Sort.TheVariants.{Int}
use Rattle.cyp_pred.proofs.bindings.add_new_ints.Goals as goal

pub loop-k-preserved : goal.loop-k-preserved
loop-k-preserved c =
    new_int_turn c.loop-k.binds.items c.push.new.self.items _ c.args.number c.args.first c.loop-k.k c.args.count c.loop-k-test.true
    (c.in_ok-push.ensures.items ∙ ap (λ (b : IntBind). c.loop-k.binds.items ++ b ∷ []) (c.int_bind.ensures ∙ ap (λ t. record { var = record { sort = Int; number = c.args.number + c.loop-k.k }; to = t }) c.int_term.ensures)) c.loop-k.invariant
