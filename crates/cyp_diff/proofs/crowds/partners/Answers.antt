use Rattle.std.proofs.Common.{ℕ, Bool, true, false, IsTrue, List, pos, get_or, sym, subst, ◌∙◌}
use Rattle.cyp_diff.specs.Crowds.{AreDifferent}
use Rattle.cyp_diff.proofs.Crowding.{get_or-false, set-holds}
use Rattle.cyp_diff.proofs.crowds.partners.Goals.{in-Some, in_default}
use Rattle.cyp_diff.proofs.crowds.partners.Goals as goal

pub loop-k-init : goal.loop-k-init
loop-k-init c = λ v t. absurd (cc (sym t ∙ get_or-false 40 v))

pub loop-k-preserved : goal.loop-k-preserved
loop-k-preserved c =
    let Told : List Bool → Type 0 = λ out. (v : ℕ) → IsTrue (get_or out v false) → AreDifferent c.args.gaps.now c.args.m v in
    elim c.match-partner.branch [
      | in-Some w ↦
          subst Told (sym w.out-is)
          (set-holds c.loop-k.out (AreDifferent c.args.gaps.now c.args.m) w.in-Some.v true c.loop-k.invariant (λ _ x a. w.in-Some.ensures.different x (a c.loop-k.k (record { i = 0; j = 0; c = pos 0 }) c.loop-k-test.true)))
      | in_default w ↦ subst Told (sym w.out-is) c.loop-k.invariant
    ]
