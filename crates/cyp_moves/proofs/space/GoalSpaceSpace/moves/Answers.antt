use Rattle.std.proofs.Common.{◌∙◌, ◌≤◌, List, ap, length, map, subst, sym, take}
use Rattle.std.specs.List.{All}
use Rattle.cyp_heap.specs.declared.goal.Goal.{Goal}
use Rattle.cyp_heap.specs.declared.goal.Node.{Node}
use Rattle.cyp_moves.proofs.FewPremises.{few_built}
use Rattle.cyp_moves.proofs.BuiltTable.{few_priced, moves_alive}
use Rattle.cyp_moves.specs.BuiltRows.{HasFewPremises}
use Rattle.cyp_moves.specs.Moves.{moves, priced}
use Rattle.cyp_space.specs.Alts.{AltOf}
use Rattle.cyp_step.proofs.TriedRules.{goal_is_of_node}
use Rattle.cyp_step.specs.Shown.{dead}
use Rattle.cyp_step.specs.declared.rule.Row.{Row}
use Rattle.cyp_step.specs.declared.rule.Rule.{Rule}
use Rattle.cyp_moves.proofs.space.GoalSpaceSpace.moves.Goals as goal

pub dead-requires : goal.dead-requires
dead-requires g c = goal_is_of_node c.get-node.result.now c.goal.result.now c.goal.ensures.keeps c.goal.ensures.goal

pub first_priced-requires : goal.first_priced-requires
first_priced-requires g c = subst (All HasFewPremises) (sym c.in_ok-rows.ensures) (few_built c.get-node.result.now)

pub new-requires-2 : goal.new-requires-2
new-requires-2 g c = subst (λ (xs : List (AltOf Rule Node)). length xs ≤ 48) (sym c.in_ok-alts.ensures) (few_priced c.in_ok-rows.rows)

pub returns-clause-found : goal.returns-clause-found
returns-clause-found g c =
    c.new-2.ensures
    ∙ c.in_ok-alts.ensures
    ∙ ap (λ (rs : List Row). map priced (take 48 rs)) c.in_ok-rows.ensures
    ∙ moves_alive c.get-node.result.now c.args.self.now.«unfold» (ap (λ (h : Goal). dead h) (sym c.goal.ensures.goal) ∙ sym c.in_ok-dead.ensures ∙ c.if-branch.false)
    ∙ ap (moves c.args.self.now.«unfold») c.get-node.ensures
