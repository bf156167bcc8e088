-- What each rule owes through the normal form: where the bodies of the premises meet their goals, the node's body meets its goal.
use Rattle.std.specs.Prelude.{[], List, Some, ◌≡◌, ◌∷◌, ℕ}
use Rattle.cyp_goal.specs.Normal.{Renaming}
use Rattle.cyp_heap.specs.PredsFormed.{IsFormedPreds}
use Rattle.cyp_heap.specs.declared.goal.Node.{Node}
use Rattle.cyp_kernel.specs.Compile.{renamed_names, with_new_name}
use Rattle.cyp_kernel.specs.Meets.{BodyMeets, IsNaming}
use Rattle.cyp_kernel.specs.Naming.{Names}
use Rattle.cyp_kernel.specs.RuleLaws.{AllMeet, CalleeMeets}
use Rattle.cyp_kernel.specs.Statements.{rule_body}
use Rattle.cyp_kernel.specs.SteadyLaws.{IsSteadyNode}
use Rattle.cyp_prog.specs.Programs.{Body, Procedure}
use Rattle.cyp_step.specs.Step.{raws, renamed_premises}
use Rattle.cyp_step.specs.declared.rule.Rule.{Rule}

-- there are as many bodies as premises, and each body meets its premise's goal under the names that are passed on to it
abbrev pub AllMeetRenamed : List Procedure → Names → ℕ → List Renaming → List Body → Type 0
AllMeetRenamed ps names k [] [] = Unit {0}
AllMeetRenamed ps names k (r ∷ rs) (b ∷ bs) = BodyMeets ps r.node.preds r.node.goal (renamed_names names r) k b × AllMeetRenamed ps names k rs bs
AllMeetRenamed ps names k _ _ = ⊥

-- the law of a rule before the normal form, at the nodes of derivations
abbrev pub NodeRuleLaw : Rule → Type 0
NodeRuleLaw rule =
    (ps : List Procedure) (n : Node) (ms : List Node) (bs : List Body) (names : Names) (procs : List ℕ) (next k : ℕ)
    → IsFormedPreds n.preds → IsSteadyNode n → IsNaming names n.goal.program next → raws n rule ≡ Some ms → CalleeMeets ps n procs k rule
    → AllMeet ps (with_new_name n rule next names) k ms bs
    → BodyMeets ps n.preds n.goal names k (rule_body n names procs next rule bs)

-- where the bodies of a rule's premises meet the premises' goals, the node's body meets the node's goal
abbrev pub NormalRuleLaw : Rule → Type 0
NormalRuleLaw rule =
    (ps : List Procedure) (n : Node) (rs : List Renaming) (bs : List Body) (names : Names) (procs : List ℕ) (next k : ℕ)
    → IsFormedPreds n.preds → IsSteadyNode n → IsNaming names n.goal.program next → renamed_premises n rule ≡ Some rs → CalleeMeets ps n procs k rule
    → AllMeetRenamed ps (with_new_name n rule next names) k rs bs
    → BodyMeets ps n.preds n.goal names k (rule_body n names procs next rule bs)
