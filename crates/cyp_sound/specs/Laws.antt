-- The program of an accepted derivation is safe, and it is correct: over the definitions alone.
use Rattle.cyp_goal.specs.Normal.{Renaming, normal}
use Rattle.cyp_goal.specs.Raw.{is_sorted}
use Rattle.cyp_heap.specs.Assertions.{SideHolds}
use Rattle.cyp_heap.specs.Chunks.{in_order}
use Rattle.cyp_heap.specs.Formed.{IsFormed}
use Rattle.cyp_heap.specs.PredsFormed.{IsFormedPreds}
use Rattle.cyp_heap.specs.Stores.{Store}
use Rattle.cyp_heap.specs.declared.goal.Goal.{Goal}
use Rattle.cyp_heap.specs.declared.pred.Preds.{Preds}
use Rattle.cyp_kernel.specs.Accepted.{IsAccepted, lead_of}
use Rattle.cyp_kernel.specs.Companions.{Proof}
use Rattle.cyp_kernel.specs.Compile.{program_of}
use Rattle.cyp_kernel.specs.Correct.{IsCorrect, kept_params, unlinked}
use Rattle.cyp_kernel.specs.Meets.{MeetsSoFar}
use Rattle.cyp_machine.specs.Runs.{Run}
use Rattle.cyp_machine.specs.States.{State, start}
use Rattle.cyp_prog.specs.Programs.{Procedure}
use Rattle.cyp_sound.specs.Kept.{are_small, is_small}
use Rattle.cyp_term.specs.Meaning.{Assignment}
use Rattle.std.specs.List.{list_all}
use Rattle.std.specs.Prelude.{IsTrue, List, Some, map, ◌≡◌, ℕ}

-- each run of the main procedure comes to no fault, and where it has ended, its heap meets the postcondition
abbrev pub IsSafe : List Procedure → Preds → Goal → Type 0
IsSafe ps preds g =
    (s : Assignment) (h : Store) (ns : List ℕ) → SideHolds preds s g.pure_pre g.pre.chunks h ns
    → (n : ℕ) (t : State) → Run ps n (start ps 0 (map s.number (kept_params preds g)) h) t → MeetsSoFar preds g s t

-- so it is with the program of each derivation that is accepted at the root of a formed goal over formed predicates
abbrev pub AcceptedIsSafe : Type 0
AcceptedIsSafe =
    (name : List ℕ) (preds : Preds) (g : Goal) (r : Renaming) (d : Proof)
    → IsFormedPreds preds → IsFormed preds g → IsTrue (is_sorted (unlinked preds g)) → normal (unlinked preds g) ≡ Some r → IsAccepted r.node d
    → IsSafe (program_of name d) preds g

-- what the types of goals and predicates keep: the chunks of the precondition are in order, and no block has more than 8 cells
pub record IsFit (preds : Preds) (g : Goal) : Type 0 where
  pub order : IsTrue (in_order g.pre.chunks)
  pub post_small : IsTrue (list_all is_small g.post.chunks)
  pub preds_small : IsTrue (are_small preds)

-- the program of an accepted derivation is correct
abbrev pub AcceptedIsCorrect : Type 0
AcceptedIsCorrect =
    (name : List ℕ) (preds : Preds) (g : Goal) (r : Renaming) (d : Proof)
    → IsFormedPreds preds → IsFormed preds g → IsFit preds g → IsTrue (is_sorted (unlinked preds g)) → normal (unlinked preds g) ≡ Some r → IsAccepted r.node d
    → IsCorrect (program_of name d) preds g (lead_of d)
