use Rattle.std.proofs.Common.{ap, subst, sym, ◌∙◌, ◌≡◌}
use Rattle.cyp_spec.specs.KeepsSpec.{KeepsSpec}
use Rattle.cyp_reading.proofs.MendedSame.{text_same}
use Rattle.cyp_spec.proofs.TextsReadable.{goal_readable, post_sizes, pre_sizes, root_right}
use Rattle.cyp_names.specs.Specifications.{Specification, read_goal, read_preds, read_tree}
use Rattle.cyp_formed.proofs.FormedGoals.{formed}
use Rattle.cyp_spec.proofs.reading.spec_of.Goals.{In_ok-goal}
use Rattle.cyp_spec.proofs.reading.spec_of.Goals as goal

pub read_goal-requires : goal.read_goal-requires
read_goal-requires c = goal_readable c.args.tree.now c.requires.names c.requires.limits c.requires.small

said : (c : In_ok-goal) → record { preds = c.in_ok-shared.shared; name = c.in_ok-name.name; goal = c.in_ok-goal.goal } ≡ read_tree c.args.tree.now
said c =
    let t = c.args.tree.now in
    let n = c.requires.names in
    let l = c.requires.limits in
    let s = c.requires.small in
    let preds_are : c.in_ok-shared.shared ≡ read_preds t.preds = c.in_ok-shared.ensures ∙ c.in_ok-preds.ensures in
    let goal_is : c.in_ok-goal.goal ≡ read_goal t = c.in_ok-goal.ensures ∙ ap read_goal (text_same t (pre_sizes t n l s) (post_sizes t n l s)) in
    λ i. record { preds = preds_are i; name = c.in_ok-name.ensures i; goal = goal_is i }

pub new-requires-2 : goal.new-requires-2
new-requires-2 c =
    let t = c.args.tree.now in
    subst (λ (x : Specification). KeepsSpec x) (sym (said (goal.at.new-requires-2 c).In_ok-goal))
    (record { formed = formed t c.requires.names; within = root_right t c.requires.names c.requires.limits c.requires.small })

pub returns : goal.returns
returns c = c.new-2.ensures ∙ said (goal.at.returns c).In_ok-goal
