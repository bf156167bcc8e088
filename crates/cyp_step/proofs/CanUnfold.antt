-- An instance of a node can be unfolded.
use Rattle.std.proofs.Common.{◌≡◌, ◌∙◌, ◌<◌, ◌≤◌, ℕ, IfSome, IsTrue, List, None, Option, Some, ap, is_none, refl, slice_get, subst, sym, true}
use Rattle.std.specs.List.{list_any}
use Rattle.std.proofs.lemmas.Bool.{false≢true}
use Rattle.cyp_heap.specs.Formed.{inst_fits, is_card_var}
use Rattle.cyp_heap.specs.PredsFormed.{IsFormedPreds}
use Rattle.cyp_heap.specs.declared.chunk.InstOf.{InstOf}
use Rattle.cyp_heap.specs.declared.pred.Preds.{Preds}
use Rattle.cyp_pred.proofs.LowNumbers.{low_numbers}
use Rattle.cyp_pred.specs.Unfold.{unfold_inst, wide_unfolded}
use Rattle.cyp_pred.specs.Unfoldable.{CanUnfold, card_fits, wide_entry}
use Rattle.cyp_pred.specs.declared.unfolded.Next.{Next}
use Rattle.cyp_pred.specs.declared.unfolded.Unfolded.{Unfolded}
use Rattle.cyp_step.specs.UnfoldParts.{AreUnfolded, IsUnfolded}
use Rattle.cyp_term.specs.declared.term.Var.{Var}

pub card_there : (o : Option Var) → IsTrue (is_card_var o) → IsTrue (card_fits o)
card_there None e = absurd (false≢true e)
card_there (Some v) e = e

pub card_missing : (o : Option Var) → IsTrue (is_none o) → IsTrue (card_fits o)
card_missing None e = refl
card_missing (Some v) e = absurd (false≢true e)

pub can_unfold : (ps qs : Preds) (j : InstOf) (next : Next) → ps ≡ qs → IsFormedPreds ps → IsTrue (inst_fits qs j) → IsTrue (card_fits j.card) → j.tag < 255
    → next.ints ≤ 32 → next.cards ≤ 32 → next.sets ≤ 32 → CanUnfold ps j next
can_unfold ps qs j next e f fits card tag a b c = record {
  fits = subst (λ (p : Preds). IsTrue (inst_fits p j)) (sym e) fits;
  card = card;
  tag = tag;
  numbers = low_numbers ps j next f a b c;
}

pub wide_one : (o : Option Unfolded) → wide_entry o ≡ true → IfSome o (λ u. wide_unfolded u ≡ true)
wide_one None e = absurd (false≢true e)
wide_one (Some u) e = e

-- the entry that is there, or that there is none
pub entry_is : (o p : Option Unfolded) → o ≡ p → IsUnfolded p o
entry_is None p e = subst (λ (q : Option Unfolded). IfSome q (λ u. wide_unfolded u ≡ true)) e tt
entry_is (Some u) p e = sym e

-- ---- over the predicates of a node

module _ (ps qs : Preds) (j : InstOf) (next : Next) (e : ps ≡ qs) where
  pub all_are : (us : List Unfolded) → us ≡ unfold_inst ps j next → AreUnfolded (unfold_inst qs j next) (Some us)
  all_are us h = sym (h ∙ ap (λ (p : Preds). unfold_inst p j next) e)

  pub wide_are : list_any wide_unfolded (unfold_inst ps j next) ≡ true → AreUnfolded (unfold_inst qs j next) None
  wide_are h = sym (ap (λ (p : Preds). list_any wide_unfolded (unfold_inst p j next)) e) ∙ h

  pub one_is : (c : ℕ) (o : Option Unfolded) → o ≡ slice_get (unfold_inst ps j next) c → IsUnfolded (slice_get (unfold_inst qs j next) c) o
  one_is c o h = entry_is o (slice_get (unfold_inst qs j next) c) (h ∙ ap (λ (p : Preds). slice_get (unfold_inst p j next) c) e)

  pub one_wide : (c : ℕ) → wide_entry (slice_get (unfold_inst ps j next) c) ≡ true → IsUnfolded (slice_get (unfold_inst qs j next) c) None
  one_wide c h = wide_one (slice_get (unfold_inst qs j next) c) (sym (ap (λ (p : Preds). wide_entry (slice_get (unfold_inst p j next) c)) e) ∙ h)
