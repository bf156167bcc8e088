-- The normal form of a node that is as the rules ask, and bodies that meet its goal.
use Rattle.std.specs.Prelude.{IsTrue, List, Some, ◌≡◌, ℕ}
use Rattle.cyp_goal.specs.Normal.{Renaming, normal}
use Rattle.cyp_goal.specs.Raw.{is_sorted}
use Rattle.cyp_heap.specs.Formed.{IsFormed}
use Rattle.cyp_heap.specs.declared.goal.Goal.{Goal}
use Rattle.cyp_heap.specs.declared.goal.Node.{Node}
use Rattle.cyp_heap.specs.declared.pred.Preds.{Preds}
use Rattle.cyp_kernel.specs.Compile.{renamed_names}
use Rattle.cyp_kernel.specs.Correct.{unlinked}
use Rattle.cyp_kernel.specs.Meaning.{IsReady}
use Rattle.cyp_kernel.specs.Meets.{BodyMeets}
use Rattle.cyp_kernel.specs.Naming.{Names}
use Rattle.cyp_kernel.specs.Steady.{IsSteady}
use Rattle.cyp_prog.specs.Programs.{Body, Procedure}

-- a node that is as the rules ask has what the normal form asks
abbrev pub SteadyIsReady : Type 0
SteadyIsReady = (n : Node) → IsSteady n → IsReady n

-- the node of a formed goal is as the rules ask, where its variables have the sorts of their places
abbrev pub FormedIsSteady : Type 0
FormedIsSteady = (preds : Preds) (g : Goal) → IsFormed preds g → IsTrue (is_sorted (unlinked preds g)) → IsSteady (unlinked preds g)

-- the normal form of a node that is as the rules ask is so too
abbrev pub NormalIsSteady : Type 0
NormalIsSteady = (n : Node) (r : Renaming) → IsSteady n → normal n ≡ Some r → IsSteady r.node

-- a body that meets the goal of the normal form, under the names that are passed on, meets the goal of the node
abbrev pub NormalBodies : Type 0
NormalBodies =
    (n : Node) (r : Renaming) → IsReady n → normal n ≡ Some r → (ps : List Procedure) (names : Names) (k : ℕ) (b : Body)
    → BodyMeets ps r.node.preds r.node.goal (renamed_names names r) k b → BodyMeets ps n.preds n.goal names k b
