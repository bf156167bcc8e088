use Rattle.std.proofs.Common.{ℕ, false, IsTrue, get_or, to_z, of_z, w64, sym, subst, ◌∙◌}
use Rattle.std.proofs.lemmas.Int.{to_z-of_z}
use Rattle.cyp_diff.specs.Crowds.{AreNear}
use Rattle.cyp_diff.proofs.Crowding.{get_or-false, set-holds}
use Rattle.cyp_diff.proofs.crowds.nearer.Goals.{then-kept-k, else-kept-k}
use Rattle.cyp_diff.proofs.crowds.nearer.Goals as goal

pub loop-v-init : goal.loop-v-init
loop-v-init c = λ v t. absurd (cc (sym t ∙ get_or-false 40 v))

pub loop-v-preserved : goal.loop-v-preserved
loop-v-preserved c =
    let Told : ℕ → Type 0 = λ v. IsTrue (get_or c.args.kept.now v false) × AreNear c.args.bounds.now c.args.gaps.now (to_z w64 (of_z w64 c.args.most)) c.args.m v in
    elim c.if-kept-k.branch [
      | then-kept-k w ↦
          set-holds c.loop-v.out Told c.loop-v.v c.if-kept-k.out c.loop-v.invariant
          (λ t. (w.if-kept-k.true, λ x m a. w.is_near.ensures (sym w.out-is ∙ t) x m (λ d. c.partners-different.ensures c.loop-v.v d x a)))
      | else-kept-k w ↦ set-holds c.loop-v.out Told c.loop-v.v c.if-kept-k.out c.loop-v.invariant (λ t. absurd (cc (sym t ∙ w.out-is ∙ w.if-kept-k.false)))
    ]

pub returns-clause-near : goal.returns-clause-near
returns-clause-near c v t =
    subst (λ z. AreNear c.args.bounds.now c.args.gaps.now z c.args.m v) (to_z-of_z w64 c.args.most c.ranges.most) (c.loop-v.invariant v t).1
