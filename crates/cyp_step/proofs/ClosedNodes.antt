-- What Close leaves to do at a node, test by test.
use Rattle.std.proofs.Common.{◌≡◌, ◌∙◌, ◌∷◌, ℕ, [], Bool, IfSome, IsTrue, None, Option, Some, ap, false, is_none, nat_lt, option_map, refl, slice_get, subst, sym, true}
use Rattle.std.specs.List.{list_any}
use Rattle.std.proofs.lemmas.Bool.{or_left}
use Rattle.std.proofs.lemmas.Option.{none-some}
use Rattle.std.proofs.lemmas.List.Elements.{recursion_from_All}
use Rattle.cyp_goal.proofs.LinksFit.{FitsPost}
use Rattle.cyp_heap.specs.Formed.{inst_fits, insts_fit}
use Rattle.cyp_heap.specs.Goals.{wide_node}
use Rattle.cyp_heap.specs.Keeps.{KeepsNode}
use Rattle.cyp_heap.specs.PredsFormed.{IsFormedPreds}
use Rattle.cyp_heap.specs.declared.chunk.Chunk.{Chunk}
use Rattle.cyp_heap.specs.declared.chunk.Chunk.TheVariants.{Block, Cell, Inst}
use Rattle.cyp_heap.specs.declared.chunk.InstOf.{InstOf}
use Rattle.cyp_heap.specs.declared.goal.Node.{Node}
use Rattle.cyp_pred.specs.Unfold.{unfold_inst, wide_unfolded}
use Rattle.cyp_pred.specs.declared.unfolded.Unfolded.{Unfolded}
use Rattle.cyp_step.proofs.ChunkLists.{Every-slice_get}
use Rattle.cyp_step.proofs.FormedClauses.{formed_clauses_fit}
use Rattle.cyp_step.proofs.LeftInCode.{nothing_left, wide_left}
use Rattle.cyp_step.proofs.OpenedNodes.{keeps_node}
use Rattle.cyp_step.proofs.Premises.{left_nodes_are_raw}
use Rattle.cyp_step.proofs.RawNodes.{by_test, its_sides}
use Rattle.cyp_step.proofs.WideEntries.{wide_closed, wide_with}
use Rattle.cyp_step.specs.Changes.{Raws, next_of, post_of, where_true}
use Rattle.cyp_step.specs.Nodes.{IsOver, IsRaw}
use Rattle.cyp_step.specs.Step.{raws, renamed_premises}
use Rattle.cyp_step.specs.UnfoldParts.{IsUnfolded, closed_goal, inst_in}
use Rattle.cyp_step.specs.Unfolding.{raw_close}
use Rattle.cyp_step.specs.declared.rule.Rule.TheVariants.{ByClose}

no_inst : (n : Node) (c : ℕ) (o : Option Chunk) → inst_in o ≡ None → raw_close n c o ≡ None
no_inst n c None e = refl
no_inst n c (Some (Inst j)) e = absurd (none-some j (sym e))
no_inst n c (Some (Block b)) e = refl
no_inst n c (Some (Cell k)) e = refl

where_none : (b : Bool) (o : Raws) → o ≡ None → where_true b o ≡ None
where_none true o e = e
where_none false o e = refl

module _ (n : Node) (c : ℕ) where
  pub not_closed : inst_in (slice_get (post_of n) 0) ≡ None → renamed_premises n (ByClose c) ≡ None
  not_closed e = nothing_left n (ByClose c) (no_inst n c (slice_get (post_of n) 0) e)

  -- the node that a clause leaves
  abbrev pub closed : Unfolded → Node
  closed u = record n { goal = closed_goal n.goal (next_of n) u }

  module _ (j : InstOf) (at : slice_get (post_of n) 0 ≡ Some (Inst j)) where
    abbrev pub chosen : Option Unfolded
    chosen = slice_get (unfold_inst n.preds j (next_of n)) c

    abbrev pub left_by : Option Unfolded → Raws
    left_by o = option_map (λ (u : Unfolded). closed u ∷ []) o

    raws_at : raws n (ByClose c) ≡ where_true (nat_lt j.tag 255) (left_by chosen)
    raws_at = ap (raw_close n c) at

    pub too_deep : nat_lt j.tag 255 ≡ false → renamed_premises n (ByClose c) ≡ None
    too_deep e = nothing_left n (ByClose c) (raws_at ∙ ap (λ b. where_true b (left_by chosen)) e)

    one_wide : (u : Unfolded) → wide_unfolded u ≡ true → list_any (λ (m : Node). wide_node m) (closed u ∷ []) ≡ true
    one_wide u w = or_left (wide_node (closed u)) false (wide_with (closed u) (wide_closed n.goal u w (next_of n)))

    without_entry : (o : Option Unfolded) → chosen ≡ o → IfSome o (λ u. wide_unfolded u ≡ true) → renamed_premises n (ByClose c) ≡ None
    without_entry None e w = nothing_left n (ByClose c) (raws_at ∙ where_none (nat_lt j.tag 255) (left_by chosen) (ap left_by e))
    without_entry (Some u) e w =
        by_test (nat_lt j.tag 255)
        (λ t. wide_left n (ByClose c) (closed u ∷ []) (raws_at ∙ (λ i. where_true (t i) (left_by (e i)))) (one_wide u w))
        too_deep

    pub no_entry : IsUnfolded chosen None → renamed_premises n (ByClose c) ≡ None
    no_entry h = without_entry chosen refl h

    pub closed_one : nat_lt j.tag 255 ≡ true → (u : Unfolded) → chosen ≡ Some u → raws n (ByClose c) ≡ Some (closed u ∷ [])
    closed_one t u e = raws_at ∙ (λ i. where_true (t i) (left_by (e i)))

    module _ (k : KeepsNode n) where
      pub focus_fits : IsTrue (inst_fits n.preds j)
      focus_fits = (subst (λ (o : Option Chunk). IfSome o (FitsPost n.preds)) at (Every-slice_get (FitsPost n.preds) (post_of n) 0 (its_sides n (keeps_node n k)).post)).0

      pub focus_card : IsTrue (is_none j.card)
      focus_card = (subst (λ (o : Option Chunk). IfSome o (FitsPost n.preds)) at (Every-slice_get (FitsPost n.preds) (post_of n) 0 (its_sides n (keeps_node n k)).post)).1

      pub closed_fits : IsFormedPreds n.preds → nat_lt j.tag 255 ≡ true → (u : Unfolded) → chosen ≡ Some u → IsTrue (insts_fit n.preds (closed u).goal)
      closed_fits f t u e =
          (recursion_from_All (IsOver n.preds IsRaw) (closed u ∷ [])
          (left_nodes_are_raw n (ByClose c) (closed u ∷ []) (formed_clauses_fit n.preds f) (keeps_node n k) (closed_one t u e))).0.fact.fits
