-- What Open leaves to do at a node, test by test.
use Rattle.std.proofs.Common.{◌≡◌, ◌∙◌, ◌&&◌, ℕ, Bool, IfSome, IsTrue, List, None, Option, Some, ap, false, map, option_map, refl, slice_get, subst, sym, true}
use Rattle.std.specs.List.{All, list_all, list_any}
use Rattle.std.proofs.lemmas.List.Elements.{All-from_recursion, All-weaker}
use Rattle.std.proofs.lemmas.Option.{none-some}
use Rattle.cyp_goal.proofs.LinksFit.{FitsPre}
use Rattle.cyp_heap.specs.Chunks.{without}
use Rattle.cyp_heap.specs.Formed.{inst_fits, is_card_var}
use Rattle.cyp_heap.specs.Keeps.{KeepsNode}
use Rattle.cyp_heap.specs.PredsFormed.{IsFormedPreds}
use Rattle.cyp_heap.specs.declared.chunk.Chunk.{Chunk}
use Rattle.cyp_heap.specs.declared.chunk.Chunk.TheVariants.{Block, Cell, Inst}
use Rattle.cyp_heap.specs.declared.chunk.InstOf.{InstOf}
use Rattle.cyp_heap.specs.declared.goal.Node.{Node}
use Rattle.cyp_pred.specs.Unfold.{unfold_inst, wide_unfolded}
use Rattle.cyp_pred.specs.declared.unfolded.Unfolded.{Unfolded}
use Rattle.cyp_step.proofs.ChunkLists.{Every-slice_get, Every-without}
use Rattle.cyp_step.proofs.FormedClauses.{formed_clauses_fit}
use Rattle.cyp_step.proofs.LeftInCode.{nothing_left, wide_left}
use Rattle.cyp_step.proofs.Premises.{left_nodes_are_raw}
use Rattle.cyp_step.proofs.RawNodes.{by_test, its_sides}
use Rattle.cyp_step.proofs.WideEntries.{wide_premises}
use Rattle.cyp_step.specs.Changes.{next_of, pre_of, where_true}
use Rattle.cyp_step.specs.Nodes.{IsNode, IsOver, IsRaw}
use Rattle.cyp_step.specs.Step.{raws, renamed_premises}
use Rattle.cyp_step.specs.UnfoldParts.{HasCard, HasFits, has_room, inst_in}
use Rattle.cyp_step.specs.Unfolding.{is_testable, open_link, open_premise, raw_open}
use Rattle.cyp_step.specs.declared.rule.Rule.TheVariants.{ByOpen}

-- ---- the instance at a place

pub the_inst : (o : Option Chunk) (j : InstOf) → inst_in o ≡ Some j → o ≡ Some (Inst j)
the_inst None j e = absurd (none-some j e)
the_inst (Some (Inst k)) j e = ap (λ (p : Option InstOf). option_map Inst p) e
the_inst (Some (Block b)) j e = absurd (none-some j e)
the_inst (Some (Cell c)) j e = absurd (none-some j e)

pub keeps_node : (n : Node) → KeepsNode n → IsNode n
keeps_node n k = record { within = k.within; raw = record { fits = k.fits; linked = k.linked } }

no_inst : (n : Node) (i : ℕ) (o : Option Chunk) → inst_in o ≡ None → raw_open n i o ≡ None
no_inst n i None e = refl
no_inst n i (Some (Inst j)) e = absurd (none-some j (sym e))
no_inst n i (Some (Block b)) e = refl
no_inst n i (Some (Cell c)) e = refl

card_of : (n : Node) (c : Chunk) → FitsPre n.preds c → HasCard c
card_of n (Inst j) h = h.1
card_of n (Block b) h = tt
card_of n (Cell c) h = tt

and_false : (b : Bool) → (b && false) ≡ false
and_false true = refl
and_false false = refl

module _ (n : Node) (i : ℕ) where
  pub not_opened : inst_in (slice_get (pre_of n) i) ≡ None → renamed_premises n (ByOpen i) ≡ None
  not_opened e = nothing_left n (ByOpen i) (no_inst n i (slice_get (pre_of n) i) e)

  module _ (j : InstOf) (at : slice_get (pre_of n) i ≡ Some (Inst j)) where
    abbrev pub entries : List Unfolded
    entries = unfold_inst n.preds j (next_of n)

    abbrev pub tested : Bool
    tested = list_all (λ (u : Unfolded). is_testable n.goal u.guard) entries

    abbrev pub left : List Node
    left = map (open_premise n i (open_link n i j)) entries

    raws_under : (b : Bool) → (has_room n j && tested) ≡ b → raws n (ByOpen i) ≡ where_true b (Some left)
    raws_under b e = ap (raw_open n i) at ∙ ap (λ t. where_true t (Some left)) e

    pub not_under : (has_room n j && tested) ≡ false → renamed_premises n (ByOpen i) ≡ None
    not_under e = nothing_left n (ByOpen i) (raws_under false e)

    pub no_room : has_room n j ≡ false → renamed_premises n (ByOpen i) ≡ None
    no_room e = not_under (ap (λ b. b && tested) e)

    pub not_tested : tested ≡ false → renamed_premises n (ByOpen i) ≡ None
    not_tested e = not_under (ap (λ b. has_room n j && b) e ∙ and_false (has_room n j))

    pub opened_wide : list_any wide_unfolded entries ≡ true → renamed_premises n (ByOpen i) ≡ None
    opened_wide w =
        by_test (has_room n j && tested) (λ e. wide_left n (ByOpen i) left (raws_under true e) (wide_premises n i (open_link n i j) entries w)) not_under

    pub opened_all : has_room n j ≡ true → tested ≡ true → raws n (ByOpen i) ≡ Some left
    opened_all r t = raws_under true (ap (λ b. b && tested) r ∙ t)

    -- ---- conditions

    module _ (k : KeepsNode n) where
      fits_there : FitsPre n.preds (Inst j)
      fits_there = subst (λ (o : Option Chunk). IfSome o (FitsPre n.preds)) at (Every-slice_get (FitsPre n.preds) (pre_of n) i (its_sides n (keeps_node n k)).pre)

      pub its_fit : IsTrue (inst_fits n.preds j)
      its_fit = fits_there.0

      pub its_card : IsTrue (is_card_var j.card)
      its_card = fits_there.1

      pub other_cards : All HasCard (without (pre_of n) i)
      other_cards =
          All-weaker (FitsPre n.preds) HasCard (card_of n) (without (pre_of n) i)
          (All-from_recursion (FitsPre n.preds) (without (pre_of n) i) (Every-without (FitsPre n.preds) (pre_of n) i (its_sides n (keeps_node n k)).pre))

      pub premises_fit : IsFormedPreds n.preds → has_room n j ≡ true → tested ≡ true → All HasFits left
      premises_fit f r t =
          All-weaker (IsOver n.preds IsRaw) HasFits (λ m l. l.fact.fits) left
          (left_nodes_are_raw n (ByOpen i) left (formed_clauses_fit n.preds f) (keeps_node n k) (opened_all r t))
