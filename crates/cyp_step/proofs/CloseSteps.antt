-- The steps of Close in code: what the tests and calls say of the node.
use Rattle.std.proofs.Common.{◌≡◌, ◌∙◌, ◌∷◌, ℕ, [], IfOk, IsTrue, None, Option, Result, Some, ap, nat_lt, slice_get, subst, sym, true}
use Rattle.cyp_heap.specs.Formed.{insts_fit}
use Rattle.cyp_heap.specs.Keeps.{KeepsNode}
use Rattle.cyp_heap.specs.PredsFormed.{IsFormedPreds}
use Rattle.cyp_heap.specs.declared.chunk.Chunk.TheVariants.{Inst}
use Rattle.cyp_heap.specs.declared.chunk.InstOf.{InstOf}
use Rattle.cyp_heap.specs.declared.goal.Goal.{Goal}
use Rattle.cyp_heap.specs.declared.goal.Node.{Node}
use Rattle.cyp_heap.specs.declared.pred.Preds.{Preds}
use Rattle.cyp_pred.specs.Unfold.{unfold_inst}
use Rattle.cyp_pred.specs.declared.unfolded.Next.{Next}
use Rattle.cyp_pred.specs.declared.unfolded.Unfolded.{Unfolded}
use Rattle.cyp_step.proofs.ClosedNodes.{closed_fits, closed_one}
use Rattle.cyp_step.proofs.LeftInCode.{each_left}
use Rattle.cyp_step.specs.Changes.{Raws, next_of, post_of}
use Rattle.cyp_step.specs.Leaving.{LeavesRaws}
use Rattle.cyp_step.specs.Step.{raws}
use Rattle.cyp_step.specs.UnfoldParts.{IsUnfolded, closed_goal}
use Rattle.cyp_step.specs.declared.rule.Rule.{Rule}
use Rattle.cyp_step.specs.declared.rule.Rule.TheVariants.{ByClose}

-- a call's answer is what the rule leaves
pub left_as : {E : Type 0} (n : Node) (r : Rule) (p : Raws) (x : Result Raws E) → raws n r ≡ p → IfOk x (λ o. o ≡ p) → IfOk x (λ o. LeavesRaws n r o)
left_as n r p x e h = each_left n r x (subst (λ q. IfOk x (λ o. o ≡ q)) (sym e) h)

module _ (n : Node) (c : ℕ) (j : InstOf) (next : Next) (new : next ≡ next_of n) where
  abbrev pub chosen : Option Unfolded
  chosen = slice_get (unfold_inst n.preds j (next_of n)) c

  pub entry_missing : (o : Option Unfolded) → IsUnfolded (slice_get (unfold_inst n.preds j next) c) o → o ≡ None → IsUnfolded chosen None
  entry_missing o h e =
      subst (λ (m : Next). IsUnfolded (slice_get (unfold_inst n.preds j m) c) None) new (subst (λ p. IsUnfolded (slice_get (unfold_inst n.preds j next) c) p) e h)

  pub entry_there : (o : Option Unfolded) (u : Unfolded) → IsUnfolded (slice_get (unfold_inst n.preds j next) c) o → o ≡ Some u → chosen ≡ Some u
  entry_there o u h e =
      subst (λ (m : Next). IsUnfolded (slice_get (unfold_inst n.preds j m) c) (Some u)) new (subst (λ p. IsUnfolded (slice_get (unfold_inst n.preds j next) c) p) e h)

  module _ (at : slice_get (post_of n) 0 ≡ Some (Inst j)) (t : nat_lt j.tag 255 ≡ true) (u : Unfolded) (is : chosen ≡ Some u) (g h : Goal) (d : h ≡ n.goal) (e : g ≡ closed_goal h next u) where
    same : g ≡ closed_goal n.goal (next_of n) u
    same = e ∙ (λ i. closed_goal (d i) (new i) u)

    pub fit_closed : KeepsNode n → (ps : Preds) → ps ≡ n.preds → IsFormedPreds ps → IsTrue (insts_fit n.preds g)
    fit_closed k ps v f =
        subst (λ (q : Goal). IsTrue (insts_fit n.preds q)) (sym same) (closed_fits n c j at k (subst (λ (qs : Preds). IsFormedPreds qs) v f) t u is)

    pub closed_as : raws n (ByClose c) ≡ Some (record n { goal = g } ∷ [])
    closed_as = closed_one n c j at t u is ∙ ap (λ (q : Goal). Some (record n { goal = q } ∷ [])) (sym same)
