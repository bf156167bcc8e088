-- Places where a node is opened: the instance, and the measure below it.
use Rattle.cyp_heap.specs.Stores.{Store}
use Rattle.cyp_heap.specs.declared.chunk.Chunk.{Chunk}
use Rattle.cyp_heap.specs.declared.chunk.Chunk.TheVariants.{Inst}
use Rattle.cyp_heap.specs.declared.chunk.InstOf.{InstOf}
use Rattle.cyp_heap.specs.declared.goal.Link.{Link}
use Rattle.cyp_heap.specs.declared.goal.Node.{Node}
use Rattle.cyp_kernel.proofs.Allowed.{where_true_parts}
use Rattle.cyp_kernel.specs.Companions.{Proofs, is_called}
use Rattle.cyp_sound.proofs.Time.KeepsTime.{AtPlace}
use Rattle.cyp_sound.proofs.Time.KnownCompanions.{companion_by, link_of, links_after, own_companion}
use Rattle.cyp_sound.proofs.Time.Levels.{lex_trans}
use Rattle.cyp_sound.proofs.Time.Measures.{LexAtMost, LexBelow, call_measure, measure_at}
use Rattle.cyp_sound.proofs.Time.OpenedMeasures.{opened_is_lower, opened_measure}
use Rattle.cyp_sound.proofs.Time.Plain.{IsPlain}
use Rattle.cyp_step.specs.Calling.{chunk_or_none}
use Rattle.cyp_step.specs.Changes.{pre_of}
use Rattle.cyp_step.specs.Step.{raws}
use Rattle.cyp_step.specs.Unfolding.{open_link, raw_open}
use Rattle.cyp_step.specs.declared.rule.Rule.{Rule}
use Rattle.cyp_step.specs.declared.rule.Rule.TheVariants.{ByOpen}
use Rattle.cyp_term.specs.Meaning.{Assignment}
use Rattle.std.proofs.Common.{◌≡◌, refl, sym, ap, ℕ, ◌<◌, true, length, List, [], ◌∷◌, ◌++◌, Option, Some, inl, inr, subst}
use Rattle.std.proofs.lemmas.Bool.{and_parts, false≢true, ltb-true}
use Rattle.std.specs.Prelude.{nat_lt, slice_get}

-- the instance that is opened, where the rule is allowed
pub record Opens (n : Node) (i : ℕ) : Type 0 where
  pub inst : InstOf
  pub at : slice_get (pre_of n) i ≡ Some (Inst inst)
  pub room : length n.links < 4

open_allowed : (n : Node) (i : ℕ) (o : Option Chunk) (ms : List Node) → raw_open n i o ≡ Some ms → (j : InstOf) × (o ≡ Some (Inst j)) × (nat_lt (length n.links) 4 ≡ true)
open_allowed n i (Some (Inst j)) ms is =
    let a = where_true_parts _ _ ms is in
    (j, refl, (and_parts _ _ (and_parts _ _ a.0).0).0)
open_allowed n i o ms is = cc

pub opens : (n : Node) (i : ℕ) (ms : List Node) → raws n (ByOpen i) ≡ Some ms → Opens n i
opens n i ms e =
    let a = open_allowed n i (slice_get (pre_of n) i) ms e in
    record { inst = a.0; at = a.1; room = ltb-true (length n.links) 4 a.2 }

module _ (n : Node) (i : ℕ) (o : Opens n i) where
  pub companion_is : own_companion n (ByOpen i) ≡ companion_by n (open_link n i o.inst ∷ [])
  companion_is = ap (λ (x : Option Chunk). companion_by n (link_of n i (chunk_or_none x))) o.at

  pub links_are : links_after n (ByOpen i) ≡ n.links ++ open_link n i o.inst ∷ []
  links_are = ap (λ (x : Option Chunk). n.links ++ link_of n i (chunk_or_none x)) o.at

-- only a node that is opened is called
pub called_opens : {P : Type 0} (n : Node) (r : Rule) (ds : Proofs) → is_called n r ds ≡ true → ((i : ℕ) → r ≡ ByOpen i → P) → P
called_opens n (ByOpen i) ds e f = f i refl
called_opens n r ds e f = absurd (false≢true e)

-- below what is opened the measure is lower still
pub at_rule : (n : Node) (r : Rule) (ms : List Node) (s : Assignment) (h : Store) (z : ℕ) (start : List ℕ) → raws n r ≡ Some ms → IsPlain n → AtPlace n.links s h z start → AtPlace (links_after n r) s h z start
at_rule n (ByOpen i) ms s h z start e plain place =
    let o = opens n i ms e in
    let lower = opened_is_lower n i o.inst s o.room plain in
    let here : LexAtMost (measure_at s (n.links ++ open_link n i o.inst ∷ [])) start =
    subst (λ (m : List ℕ). LexAtMost m start) (sym (opened_measure n i o.inst s)) (inr (below (call_measure s (companion_by n (open_link n i o.inst ∷ []))) (measure_at s n.links) lower place.below)) in
    record { cells = place.cells; cards = place.cards; below = subst (λ (ls : List Link). LexAtMost (measure_at s ls) start) (sym (links_are n i o)) here; long = place.long }
  where
    below : (a b : List ℕ) → LexBelow a b → LexAtMost b start → LexBelow a start
    below a b l (inl p) = subst (LexBelow a) p l
    below a b l (inr p) = lex_trans a b start l p
at_rule n r ms s h z start e plain place = place
