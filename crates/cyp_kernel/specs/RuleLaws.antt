-- What each rule owes: where the bodies of the premises meet their goals, the node's body meets its goal.
use Rattle.std.specs.Prelude.{[], List, Some, slice_get, slice_index, ◌≡◌, ◌∷◌, ℕ}
use Rattle.cyp_heap.specs.PredsFormed.{IsFormedPreds}
use Rattle.cyp_heap.specs.declared.goal.Link.{Link}
use Rattle.cyp_heap.specs.declared.goal.Node.{Node}
use Rattle.cyp_kernel.specs.Compile.{with_new_name}
use Rattle.cyp_kernel.specs.Meets.{BodyMeets, IsNaming, ProcedureMeets}
use Rattle.cyp_kernel.specs.Naming.{Names}
use Rattle.cyp_kernel.specs.Statements.{rule_body}
use Rattle.cyp_kernel.specs.Steady.{IsSteady}
use Rattle.cyp_prog.specs.Programs.{Body, Procedure}
use Rattle.cyp_step.specs.Step.{raws}
use Rattle.cyp_step.specs.declared.rule.Rule.{Rule}
use Rattle.cyp_step.specs.declared.rule.Rule.TheVariants.{ByCall}

-- the procedure of the companion that the rule calls meets the companion's goal in runs of fewer than k steps
abbrev pub CalleeMeets : List Procedure → Node → List ℕ → ℕ → Rule → Type 0
CalleeMeets ps n procs k (ByCall c) = (l : Link) → slice_get n.links c.link ≡ Some l → ProcedureMeets ps n.preds l.goal (slice_index procs c.link) k
CalleeMeets ps n procs k r = Unit {0}

-- there are as many bodies as nodes, and each body meets the goal of its node
abbrev pub AllMeet : List Procedure → Names → ℕ → List Node → List Body → Type 0
AllMeet ps names k [] [] = Unit {0}
AllMeet ps names k (m ∷ ms) (b ∷ bs) = BodyMeets ps m.preds m.goal names k b × AllMeet ps names k ms bs
AllMeet ps names k _ _ = ⊥

-- where the bodies of a rule's premises, before their normal forms, meet the premises' goals, the node's body meets the node's goal
abbrev pub RuleLaw : Rule → Type 0
RuleLaw r =
    (ps : List Procedure) (n : Node) (ms : List Node) (bs : List Body) (names : Names) (procs : List ℕ) (next k : ℕ)
    → IsSteady n → IsFormedPreds n.preds → IsNaming names n.goal.program next → raws n r ≡ Some ms → CalleeMeets ps n procs k r
    → AllMeet ps (with_new_name n r next names) k ms bs
    → BodyMeets ps n.preds n.goal names k (rule_body n names procs next r bs)
