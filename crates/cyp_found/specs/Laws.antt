-- What a best-first search of goals finds is accepted, and its program is correct.
use Rattle.cyp_goal.specs.Normal.{Renaming, normal}
use Rattle.cyp_goal.specs.Raw.{is_sorted}
use Rattle.cyp_heap.specs.Formed.{IsFormed}
use Rattle.cyp_heap.specs.PredsFormed.{IsFormedPreds}
use Rattle.cyp_heap.specs.declared.goal.Goal.{Goal}
use Rattle.cyp_heap.specs.declared.goal.Node.{Node}
use Rattle.cyp_heap.specs.declared.pred.Preds.{Preds}
use Rattle.cyp_kernel.specs.Accepted.{IsAccepted, lead_of, root_node}
use Rattle.cyp_kernel.specs.Companions.{Proof}
use Rattle.cyp_kernel.specs.Compile.{program_of}
use Rattle.cyp_kernel.specs.Correct.{IsCorrect, unlinked}
use Rattle.cyp_moves.specs.Moves.{moves_of_kinds, weight}
use Rattle.cyp_search.specs.Reports.{Found, report}
use Rattle.cyp_sound.specs.Laws.{IsFit}
use Rattle.cyp_step.specs.declared.rule.Rule.{Rule}
use Rattle.cyp_tree.specs.Follows.{Follows}
use Rattle.cyp_tree.specs.Trees.{Moving}
use Rattle.std.specs.Prelude.{[], Bool, IsTrue, List, Some, ◌≡◌, ℕ}

-- the moves of these kinds and the weights of nodes, where an instance may be unfolded this often
abbrev pub goals_of_kinds : (Rule → Bool) → ℕ → Moving Rule Node
goals_of_kinds kinds limit = record { moves = moves_of_kinds kinds limit; weight = weight }

-- a derivation that follows the moves is accepted at its root, where that has no companions
abbrev pub FollowedIsAccepted : Type 0
FollowedIsAccepted = (kinds : Rule → Bool) (limit : ℕ) (d : Proof) → (root_node d).links ≡ [] → Follows (moves_of_kinds kinds limit) d → IsAccepted (root_node d) d

-- what a search with a budget and a limit of nodes finds is accepted at the node that it began with
abbrev pub FoundIsAccepted : Type 0
FoundIsAccepted =
    (kinds : Rule → Bool) (limit budget nodes : ℕ) (n : Node) (d : Proof) → n.links ≡ [] → (report (goals_of_kinds kinds limit) budget nodes n).verdict ≡ Found d → IsAccepted n d

-- the program of what it finds from the normal form of a goal is correct, for the goal as it was written
abbrev pub FoundIsCorrect : Type 0
FoundIsCorrect =
    (kinds : Rule → Bool) (limit budget nodes : ℕ) (name : List ℕ) (preds : Preds) (g : Goal) (r : Renaming) (d : Proof)
    → IsFormedPreds preds → IsFormed preds g → IsFit preds g → IsTrue (is_sorted (unlinked preds g)) → normal (unlinked preds g) ≡ Some r
    → (report (goals_of_kinds kinds limit) budget nodes r.node).verdict ≡ Found d → IsCorrect (program_of name d) preds g (lead_of d)
