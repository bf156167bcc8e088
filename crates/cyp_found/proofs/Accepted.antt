-- A derivation that follows the moves is accepted, and so is what a search finds; its program is correct.
use Rattle.cyp_found.proofs.AllowedRows.{move_is_step}
use Rattle.cyp_found.specs.Laws.{goals_of_kinds}
use Rattle.cyp_goal.specs.Normal.{Renaming, normal}
use Rattle.cyp_goal.specs.Raw.{is_sorted}
use Rattle.cyp_heap.specs.Formed.{IsFormed}
use Rattle.cyp_heap.specs.PredsFormed.{IsFormedPreds}
use Rattle.cyp_heap.specs.declared.goal.Goal.{Goal}
use Rattle.cyp_heap.specs.declared.goal.Link.{Link}
use Rattle.cyp_heap.specs.declared.goal.Node.{Node}
use Rattle.cyp_heap.specs.declared.pred.Preds.{Preds}
use Rattle.cyp_kernel.specs.Accepted.{AllStepsHold, IsAccepted, StepsHold, lead_of, part_nodes, root_node}
use Rattle.cyp_kernel.specs.Companions.{Proof, Proofs}
use Rattle.cyp_kernel.specs.Compile.{program_of}
use Rattle.cyp_kernel.specs.Correct.{IsCorrect, unlinked}
use Rattle.cyp_moves.specs.Moves.{moves_of_kinds}
use Rattle.cyp_search.proofs.FoundFollows.{found_follows}
use Rattle.cyp_search.specs.Reports.{Found, report}
use Rattle.cyp_sound.proofs.Safety.CompanionGoals.{link_goals, normal_goals}
use Rattle.cyp_sound.proofs.Time.Correct.{accepted_is_correct}
use Rattle.cyp_sound.specs.Laws.{IsFit}
use Rattle.cyp_step.specs.declared.rule.Rule.{Rule}
use Rattle.cyp_tree.specs.Derivations.{Derived, More, NoMore}
use Rattle.cyp_tree.specs.Follows.{Follows, FollowsAll, root, roots}
use Rattle.std.proofs.Common.{[], ap, refl, sym, Bool, List, Some, ◌∙◌, ◌∷◌, ◌≡◌, ℕ}
use Rattle.std.specs.Prelude.{IsTrue}

-- ---- derivations

root_is : (d : Proof) → root d ≡ root_node d
root_is (Derived n r ds) = refl

roots_are : (ds : Proofs) → roots ds ≡ part_nodes ds
roots_are NoMore = refl
roots_are (More d ds) = λ i. root_is d i ∷ roots_are ds i

module _ (kinds : Rule → Bool) (limit : ℕ) where
  mutual
    steps_hold : (d : Proof) → Follows (moves_of_kinds kinds limit) d → StepsHold d
    steps_hold (Derived n r ds) w =
        (move_is_step kinds n limit (record { rule = r; cost = w.0.0; premises = roots ds }) w.0.1 ∙ ap (λ (ms : List Node). Some ms) (roots_are ds), all_steps_hold ds w.1)

    all_steps_hold : (ds : Proofs) → FollowsAll (moves_of_kinds kinds limit) ds → AllStepsHold ds
    all_steps_hold NoMore w = tt
    all_steps_hold (More d ds) w = (steps_hold d w.0, all_steps_hold ds w.1)

  pub followed_is_accepted : (d : Proof) → (root_node d).links ≡ [] → Follows (moves_of_kinds kinds limit) d → IsAccepted (root_node d) d
  followed_is_accepted d alone w = (refl, alone, steps_hold d w)

  pub found_is_accepted : (budget nodes : ℕ) (n : Node) (d : Proof) → n.links ≡ [] → (report (goals_of_kinds kinds limit) budget nodes n).verdict ≡ Found d → IsAccepted n d
  found_is_accepted budget nodes n d alone e =
      let found = found_follows (goals_of_kinds kinds limit) budget nodes n d e in
      (sym (root_is d) ∙ found.1, alone, steps_hold d found.0)

-- ---- the root of a goal

no_goals : (ls : List Link) → link_goals ls ≡ [] → ls ≡ []
no_goals [] e = refl
no_goals (l ∷ ls) e = cc

pub found_is_correct : (kinds : Rule → Bool) (limit budget nodes : ℕ) (name : List ℕ) (preds : Preds) (g : Goal) (r : Renaming) (d : Proof) → IsFormedPreds preds → IsFormed preds g → IsFit preds g
    → IsTrue (is_sorted (unlinked preds g)) → normal (unlinked preds g) ≡ Some r → (report (goals_of_kinds kinds limit) budget nodes r.node).verdict ≡ Found d → IsCorrect (program_of name d) preds g (lead_of d)
found_is_correct kinds limit budget nodes name preds g r d formed fine fit sorted e found =
    accepted_is_correct name preds g r d formed fine fit sorted e (found_is_accepted kinds limit budget nodes r.node d (no_goals r.node.links (normal_goals (unlinked preds g) r e)) found)
