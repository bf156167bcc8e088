-- The program of a derivation that is accepted at a goal's root is correct.
use Rattle.cyp_goal.specs.Normal.{Renaming, normal}
use Rattle.cyp_heap.specs.declared.goal.Goal.{Goal}
use Rattle.cyp_heap.specs.declared.pred.Preds.{Preds}
use Rattle.cyp_kernel.specs.Accepted.{IsAccepted, lead_of}
use Rattle.cyp_kernel.specs.Companions.{Proof}
use Rattle.cyp_kernel.specs.Compile.{program_of}
use Rattle.cyp_kernel.specs.Correct.{IsCorrect, unlinked}
use Rattle.std.specs.Prelude.{List, Some, ◌≡◌, ℕ}

-- where the derivation is accepted at the normal form of the goal, its program is correct with the lead of the derivation, under every name
abbrev pub IsSound : Preds → Goal → Proof → Type 0
IsSound preds g d = (name : List ℕ) (r : Renaming) → normal (unlinked preds g) ≡ Some r → IsAccepted r.node d → IsCorrect (program_of name d) preds g (lead_of d)
