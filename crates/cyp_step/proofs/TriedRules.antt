-- What comes of a rule whose premises are known.
use Rattle.std.proofs.Common.{◌≡◌, ◌∙◌, Bool, List, Option, Some, ap, false, option_map, subst, sym, true}
use Rattle.std.specs.List.{list_any}
use Rattle.cyp_goal.specs.Normal.{Renaming}
use Rattle.cyp_heap.specs.Keeps.{KeepsNode}
use Rattle.cyp_heap.specs.declared.goal.Goal.{Goal}
use Rattle.cyp_heap.specs.declared.goal.Node.{Node}
use Rattle.cyp_step.proofs.GoalOfNode.{goal_of_node}
use Rattle.cyp_step.specs.NodeGoals.{IsGoalOfNode}
use Rattle.cyp_step.specs.Shown.{dead}
use Rattle.cyp_step.specs.Step.{nodes_of, premises, renamed_premises}
use Rattle.cyp_step.specs.Trying.{tried, tried_with}
use Rattle.cyp_step.specs.declared.rows.Tried.{Tried}
use Rattle.cyp_step.specs.declared.rows.Tried.TheVariants.{Allowed, Dead}
use Rattle.cyp_step.specs.declared.rule.Rule.{Rule}

-- a goal that is a node's
pub goal_is_of_node : (n : Node) (g : Goal) → KeepsNode n → g ≡ n.goal → IsGoalOfNode g
goal_is_of_node n g w e = subst (λ h. IsGoalOfNode h) (sym e) (goal_of_node n w.within)

module _ (n : Node) (r : Rule) (o : Option (List Renaming)) (rs : List Renaming) (ns ms : List Node) (b : Bool)
    (e : o ≡ renamed_premises n r) (s : o ≡ Some rs) (d : ns ≡ nodes_of rs) (v : ms ≡ ns) (h : b ≡ list_any (λ (m : Node). dead m.goal) ms) where
  -- what the test of the premises decides
  abbrev choice : Bool → Tried
  choice t = elim t [ true ↦ Dead | false ↦ Allowed (record { rule = r; premises = ns }) ]

  are_premises : Some ns ≡ premises n r
  are_premises = ap (λ ks. Some ks) d ∙ sym (ap (option_map nodes_of) (sym e ∙ s))

  decided : choice b ≡ tried n r
  decided = ap choice (h ∙ ap (list_any (λ (m : Node). dead m.goal)) v) ∙ ap (tried_with r) are_premises

  pub tried_dead : b ≡ true → Dead ≡ tried n r
  tried_dead t = sym (ap choice t) ∙ decided

  pub tried_allowed : b ≡ false → Allowed (record { rule = r; premises = ns }) ≡ tried n r
  tried_allowed t = sym (ap choice t) ∙ decided
