-- The steps of Open in code: what the tests and calls say of the node.
use Rattle.std.proofs.Common.{◌≡◌, ◌∙◌, ◌<◌, ◌∷◌, ℕ, zero, suc, [], Bool, List, None, Option, Some, ap, arith, length, map, nat_lt, refl, slice_get, subst, sym, true}
use Rattle.std.specs.List.{All, list_all, list_any}
use Rattle.std.proofs.lemmas.Bool.{and_parts, ltb-true}
use Rattle.std.proofs.lemmas.Option.{none-some}
use Rattle.cyp_heap.specs.Keeps.{KeepsNode}
use Rattle.cyp_heap.specs.PredsFormed.{IsFormedPreds}
use Rattle.cyp_heap.specs.declared.chunk.Chunk.{Chunk}
use Rattle.cyp_heap.specs.declared.chunk.Chunk.TheVariants.{Inst}
use Rattle.cyp_heap.specs.declared.chunk.InstOf.{InstOf}
use Rattle.cyp_heap.specs.declared.goal.Goal.{Goal}
use Rattle.cyp_heap.specs.declared.goal.Link.{Link}
use Rattle.cyp_heap.specs.declared.goal.Node.{Node}
use Rattle.cyp_heap.specs.declared.pred.Preds.{Preds}
use Rattle.cyp_pred.specs.Unfold.{unfold_inst, wide_unfolded}
use Rattle.cyp_pred.specs.declared.unfolded.Next.{Next}
use Rattle.cyp_pred.specs.declared.unfolded.Unfolded.{Unfolded}
use Rattle.cyp_step.proofs.OpenedNodes.{opened_all, premises_fit, the_inst}
use Rattle.cyp_step.specs.Changes.{next_of, pre_of}
use Rattle.cyp_step.specs.Step.{raws}
use Rattle.cyp_step.specs.UnfoldParts.{AreUnfolded, HasFits, has_room, inst_in}
use Rattle.cyp_step.specs.Unfolding.{is_testable, open_link, open_premise}
use Rattle.cyp_step.specs.declared.rule.Rule.TheVariants.{ByOpen}

pub none_from : {A : Type 0} (o : Option A) → ((a : A) → o ≡ Some a → ⊥) → o ≡ None
none_from None h = refl
none_from (Some a) h = absurd (h a refl)

pub within_from : {A : Type 0} (xs : List A) (i : ℕ) (x : A) → slice_get xs i ≡ Some x → i < length xs
within_from [] i x e = absurd (none-some x e)
within_from (y ∷ ys) zero x e = omega arith
within_from (y ∷ ys) (suc i) x e = omega (arith, within_from ys i x e)

-- ---- the instance at a place of some chunks

module _ (i : ℕ) (cs ds : List Chunk) (o : Option InstOf) (v : cs ≡ ds) (e : o ≡ inst_in (slice_get cs i)) where
  found : o ≡ inst_in (slice_get ds i)
  found = e ∙ ap (λ (es : List Chunk). inst_in (slice_get es i)) v

  pub inst_missing : o ≡ None → inst_in (slice_get ds i) ≡ None
  inst_missing h = sym found ∙ h

  pub inst_there : (j : InstOf) → o ≡ Some j → slice_get ds i ≡ Some (Inst j)
  inst_there j h = the_inst (slice_get ds i) j (sym found ∙ h)

-- a greater tag can be had
pub room_tag : (n : Node) (j : InstOf) → has_room n j ≡ true → j.tag < 255
room_tag n j e = ltb-true j.tag 255 (and_parts (nat_lt (length n.links) 4) (nat_lt j.tag 255) e).1

-- ---- the entries

module _ (n : Node) (i : ℕ) (j : InstOf) (at : slice_get (pre_of n) i ≡ Some (Inst j)) (next : Next) (new : next ≡ next_of n) where
  abbrev pub all : List Unfolded
  all = unfold_inst n.preds j (next_of n)

  pub entries_wide : (o : Option (List Unfolded)) → AreUnfolded (unfold_inst n.preds j next) o → o ≡ None → list_any wide_unfolded all ≡ true
  entries_wide o h e = subst (λ (m : Next). AreUnfolded (unfold_inst n.preds j m) None) new (subst (λ p. AreUnfolded (unfold_inst n.preds j next) p) e h)

  pub entries_are : (o : Option (List Unfolded)) (us : List Unfolded) → AreUnfolded (unfold_inst n.preds j next) o → o ≡ Some us → us ≡ all
  entries_are o us h e = sym (subst (λ (m : Next). AreUnfolded (unfold_inst n.preds j m) (Some us)) new (subst (λ p. AreUnfolded (unfold_inst n.preds j next) p) e h))

  module _ (us : List Unfolded) (is : us ≡ all) where
    pub tested_as : (g : Goal) (vs : List Unfolded) (b : Bool) → g ≡ n.goal → vs ≡ us → b ≡ list_all (λ (u : Unfolded). is_testable g u.guard) vs
        → b ≡ list_all (λ (u : Unfolded). is_testable n.goal u.guard) all
    tested_as g vs b d v e = e ∙ (λ k. list_all (λ (u : Unfolded). is_testable (d k) u.guard) ((v ∙ is) k))

    module _ (r : has_room n j ≡ true) (t : list_all (λ (u : Unfolded). is_testable n.goal u.guard) all ≡ true) (l : Link) (m : l ≡ open_link n i j) where
      pub fit_each : KeepsNode n → (ps : Preds) → ps ≡ n.preds → IsFormedPreds ps → All HasFits (map (open_premise n i l) us)
      fit_each k ps e f =
          subst (λ (ms : List Node). All HasFits ms) (sym (λ x. map (open_premise n i (m x)) (is x)))
          (premises_fit n i j at k (subst (λ (qs : Preds). IsFormedPreds qs) e f) r t)

      pub opened_as : (ms : List Node) → ms ≡ map (open_premise n i l) us → raws n (ByOpen i) ≡ Some ms
      opened_as ms e = opened_all n i j at r t ∙ ap (λ (ns : List Node). Some ns) (sym (e ∙ (λ x. map (open_premise n i (m x)) (is x))))
