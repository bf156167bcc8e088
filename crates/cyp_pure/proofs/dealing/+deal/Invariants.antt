use Rattle.std.proofs.Common.{ℕ, ◌+◌, ◌*◌, ◌-◌, ◌≤◌, ◌++◌, ◌∷◌, [], length}
use Rattle.cyp_pure.specs.Dealing.{CanDeal}
use Rattle.cyp_pure.proofs.dealing.+deal.Given as goal

abbrev pub decreases-deal : goal.decreases-deal
decreases-deal l = 2 * (length l.question.now.terms.now - length l.dealing.now.classes) + 1

abbrev pub decreases-deal_next : goal.decreases-deal_next
decreases-deal_next l = 2 * (length l.question.now.terms.now - length l.dealing.now.classes)

abbrev pub invariant-deal-loop-class : goal.invariant-deal-loop-class
invariant-deal-loop-class l = (k : ℕ) → l.class ≤ k → k ≤ l.dealing.count → CanDeal l.question (l.dealing.classes ++ k ∷ []) → ⊥
