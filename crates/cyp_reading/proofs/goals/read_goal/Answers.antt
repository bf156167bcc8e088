use Rattle.std.proofs.Common.{ap, arith, length, subst, sym, ◌∙◌, ◌≡◌}
use Rattle.cyp_reading.specs.InScope.{goal_in}
use Rattle.cyp_reading.specs.ReadableTexts.{GoalIn}
use Rattle.cyp_reading.proofs.InScopes.{first_within, goal_said}
use Rattle.cyp_names.specs.ReadTerms.{Scope}
use Rattle.cyp_names.specs.Specifications.{goal_scope, universal_scope}
use Rattle.cyp_reading.proofs.goals.read_goal.Goals.{After-len}
use Rattle.cyp_reading.proofs.goals.read_goal.Goals as goal

first_is : (c : After-len) → c.len.result ≡ length (universal_scope c.args.tree.now)
first_is c = c.len.ensures ∙ ap length c.in_ok-first.ensures

pub goal_in-requires-clause-readable : goal.goal_in-requires-clause-readable
goal_in-requires-clause-readable c = subst (λ (sc : Scope). GoalIn sc c.args.tree.now) (sym c.in_ok-scope.ensures) c.requires

pub goal_in-requires-clause-within : goal.goal_in-requires-clause-within
goal_in-requires-clause-within c =
    let all : length c.in_ok-scope.scope ≡ length (goal_scope c.args.tree.now) = ap length c.in_ok-scope.ensures in
    omega (arith, first_is (goal.at.goal_in-requires-clause-within c).After-len, all, first_within c.args.tree.now)

pub returns : goal.returns
returns c =
    c.in_ok-goal.ensures ∙ (λ i. goal_in (c.in_ok-scope.ensures i) (first_is (goal.at.returns c).After-len i) c.args.tree.now) ∙ goal_said c.args.tree.now
