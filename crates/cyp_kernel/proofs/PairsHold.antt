-- Where a match's positions hold, the companion's chunks hold, after the stores, in the heaps of the chunks that are paired with them.
use Rattle.std.proofs.Common.{◌≡◌, refl, sym, ap, ◌∙◌, ℕ, ◌⊎◌, inl, inr, Bool, true, false, not, List, [], ◌∷◌, ◌++◌, map, filter, Option, Some, None, subst}
use Rattle.std.specs.Prelude.{slice_get}
use Rattle.std.specs.List.{AllByRecursion}
use Rattle.std.proofs.lemmas.Bool.{false≢true}
use Rattle.std.proofs.lemmas.Option.{none-some, same_Some}
use Rattle.cyp_goal.proofs.LinksFit.{FitsPre}
use Rattle.cyp_goal.specs.Facts.{facts}
use Rattle.cyp_heap.proofs.Listings.{by_values, same_values_sym}
use Rattle.cyp_heap.specs.Assertions.{CardIs}
use Rattle.cyp_heap.specs.Formed.{is_card_var}
use Rattle.cyp_heap.specs.Instances.{InstanceHolds, Instances, arg_value}
use Rattle.cyp_heap.specs.Stores.{IsBlock, IsCell, Store}
use Rattle.cyp_heap.specs.declared.chunk.CellAt.{CellAt}
use Rattle.cyp_heap.specs.declared.chunk.Chunk.{Chunk}
use Rattle.cyp_heap.specs.declared.chunk.Chunk.TheVariants.{Block, Cell, Inst}
use Rattle.cyp_heap.specs.declared.goal.Goal.{Goal}
use Rattle.cyp_heap.specs.declared.pred.Preds.{Preds}
use Rattle.cyp_kernel.proofs.ChunkOrder.{AllHold, OneAt, first_holds, first_out}
use Rattle.cyp_kernel.proofs.FramePairs.{InstFits}
use Rattle.cyp_kernel.proofs.GoalFacts.{shown_true}
use Rattle.cyp_kernel.proofs.MendedCells.{ContentAfter, content_after, ordered_in, ordered_out, other_after}
use Rattle.cyp_kernel.proofs.MendsFound.{ContentsAt, IsContentOf, IsOfContent}
use Rattle.cyp_kernel.proofs.Offsets.{plus-zero}
use Rattle.cyp_kernel.proofs.PairedChunks.{ArePaired, ChunkMatches, chunk_matches}
use Rattle.cyp_kernel.proofs.StoreRuns.{mended}
use Rattle.cyp_kernel.proofs.WalkFinds.{IsMended, PositionHolds}
use Rattle.cyp_kernel.specs.Statements.{in_cell_order}
use Rattle.cyp_step.specs.Calling.{chunk_or_none, chunks_at}
use Rattle.cyp_step.specs.Mends.{content_of, is_needed}
use Rattle.cyp_step.specs.Shown.{shown}
use Rattle.cyp_term.proofs.Lists.{Among, Every-left, Every-right, filter_in, filter_out}
use Rattle.cyp_term.specs.Meaning.{AllTrue, Assignment, value}
use Rattle.cyp_term.specs.declared.lit.Lit.TheVariants.{Eq}
use Rattle.cyp_term.specs.declared.term.Term.{Term}
use Rattle.cyp_term.specs.declared.term.Var.{Var}
use Rattle.cyp_unify.specs.Matches.{Content, Position, card_position, positions}
use Rattle.cyp_unify.specs.declared.found.Mend.{Mend}

-- ---- the stores that are made

-- each of the stores was found, and each that was found is made or changes nothing
pub record AreMade (s : Assignment) (present : List Chunk) (all ms : List Mend) : Type 0 where
  pub among : (m : Mend) → Among m ms → Among m all
  pub made : (m : Mend) (c : CellAt) → Among m all → slice_get present m.cell ≡ Some (Cell c) → Among m ms ⊎ (value s m.value ≡ value s c.content)

not_needed : (g : Goal) (m : Mend) (c : CellAt) (o : Option Chunk) → o ≡ Some (Cell c)
    → elim (content_of o) [ None ↦ false | Some x ↦ not (shown g (Eq m.value x ∷ [])) ] ≡ false → shown g (Eq m.value c.content ∷ []) ≡ true
not_needed g m c None e f = absurd (none-some (Cell c) e)
not_needed g m c (Some d) e f = by_not (shown g (Eq m.value c.content ∷ [])) (subst (λ (y : Chunk). elim (content_of (Some y)) [ None ↦ false | Some x ↦ not (shown g (Eq m.value x ∷ [])) ] ≡ false) (same_Some d (Cell c) e) f)
  where
    by_not : (b : Bool) → not b ≡ false → b ≡ true
    by_not true e = refl
    by_not false e = absurd (false≢true (sym e))

pub are_made : (g : Goal) (s : Assignment) (all : List Mend) → AllTrue s (facts g) → AreMade s g.pre.chunks all (in_cell_order (filter (is_needed g) all))
are_made g s all known = record {
  among = λ m a. (filter_out (is_needed g) m all (ordered_out m (filter (is_needed g) all) a)).0;
  made = λ m c a e. by_need m c a e (is_needed g m) refl;
}
  where
    by_need : (m : Mend) (c : CellAt) → Among m all → slice_get g.pre.chunks m.cell ≡ Some (Cell c) → (b : Bool) → is_needed g m ≡ b
        → Among m (in_cell_order (filter (is_needed g) all)) ⊎ (value s m.value ≡ value s c.content)
    by_need m c a e true q = inl (ordered_in m (filter (is_needed g) all) (filter_in (is_needed g) m all a q))
    by_need m c a e false q = inr (shown_true g (Eq m.value c.content ∷ []) (not_needed g m c (slice_get g.pre.chunks m.cell) e q) s known).0

-- ---- one pair

module _ (preds : Preds) (s u : Assignment) (present : List Chunk) (all ms : List Mend) (made : AreMade s present all ms) where
  abbrev inst : Instances
  inst = InstanceHolds preds

  content_right : (k : ℕ) (b c : CellAt) → slice_get present k ≡ Some (Cell c) → (value u b.content ≡ value s c.content) ⊎ IsMended s u all k b.content
      → ((m : Mend) → Among m all → m.cell ≡ k → value u b.content ≡ value s m.value) → (o : ContentAfter ms present k c) → value u b.content ≡ value s o.content
  content_right k b c at holds right o = elim o.from [
    | inr x ↦ right x.0 (made.among x.0 x.1) x.2 ∙ sym (ap (value s) x.3)
    | inl x ↦ unchanged x.1 holds ∙ sym (ap (value s) x.0)
  ]
    where
      by_made : (m : Mend) → m.cell ≡ k → ((m : Mend) → Among m ms → m.cell ≡ k → ⊥) → Among m ms ⊎ (value s m.value ≡ value s c.content) → value s m.value ≡ value s c.content
      by_made m e none (inl a) = absurd (none m a e)
      by_made m e none (inr p) = p

      unchanged : ((m : Mend) → Among m ms → m.cell ≡ k → ⊥) → (value u b.content ≡ value s c.content) ⊎ IsMended s u all k b.content → value u b.content ≡ value s c.content
      unchanged none (inl p) = p
      unchanged none (inr m) = m.3 ∙ by_made m.0 m.2 none (made.made m.0 c m.1 (subst (λ (i : ℕ). slice_get present i ≡ Some (Cell c)) (sym m.2) at))

  card_right : (c d : Option Var) (n : ℕ) → is_card_var c ≡ true → is_card_var d ≡ true → AllByRecursion (PositionHolds s u all) (card_position c d) → CardIs s d n → CardIs u c n
  card_right None d n p q h k = absurd (false≢true p)
  card_right (Some c) None n p q h k = absurd (false≢true q)
  card_right (Some c) (Some d) n p q h k = sym (plus-zero (u.number c)) ∙ h.0 ∙ plus-zero (s.number d) ∙ k

  -- the chunk after the stores, and where it holds the companion's does
  record PairGood (k : ℕ) (c : Chunk) : Type 0 where
    after : Chunk
    there : slice_get (mended present ms) k ≡ Some after
    holds : (h : Store) → OneAt inst s after h → OneAt inst u c h

  pair_good : (k : ℕ) (c d : Chunk) → slice_get present k ≡ Some d → FitsPre preds c → FitsPre preds d → ChunkMatches s u all k c d
      → ((m : Mend) → Among m all → m.cell ≡ k → (t : Term) × IsContentOf c t × (value u t ≡ value s m.value)) → PairGood k c
  pair_good k (Inst i) (Inst j) at f g match right = record {
    after = Inst j;
    there = other_after ms present k (Inst j) refl at;
    holds = λ h o. (
      o.0,
      subst (λ (p : ℕ). inst p (map (arg_value u) i.args) h o.0) (sym match.0)
          (by_values preds j.pred (map (arg_value s) j.args) (map (arg_value u) i.args) h o.0 (same_values_sym (map (arg_value u) i.args) (map (arg_value s) j.args) match.1) o.1),
      card_right i.card j.card o.0 f.1 g.1 match.2 o.2,
    );
  }
  pair_good k (Block b) (Block c) at f g match right = record {
    after = Block c;
    there = other_after ms present k (Block c) refl at;
    holds = λ h o. subst (λ (n : ℕ). IsBlock h (value u b.at) n) (sym match.1) (subst (λ z. IsBlock h z c.size) (sym match.0) o);
  }
  pair_good k (Cell b) (Cell c) at f g match right =
      let o = content_after ms present k c at in
      let same = content_right k b c at match.1 (λ m a e. let x = right m a e in sym (ap (value u) x.1) ∙ x.2) o in
      record {
        after = Cell (record { at = c.at; content = o.content });
        there = o.there;
        holds = λ h w. subst (λ z. IsCell h (value u b.at) z) (sym same) (subst (λ z. IsCell h z (value s o.content)) (sym match.0) w);
      }
  pair_good k (Inst i) (Block c) at f g match right = absurd match
  pair_good k (Inst i) (Cell c) at f g match right = absurd match
  pair_good k (Block b) (Inst j) at f g match right = absurd match
  pair_good k (Block b) (Cell c) at f g match right = absurd match
  pair_good k (Cell b) (Inst j) at f g match right = absurd match
  pair_good k (Cell b) (Block c) at f g match right = absurd match

  inst_fits_pre : (c : Chunk) → FitsPre preds c → InstFits preds c
  inst_fits_pre (Inst i) f = f.0
  inst_fits_pre (Block b) f = tt
  inst_fits_pre (Cell c) f = tt

  -- ---- all pairs

  module _ (whole : List Position) (of_content : (m : Mend) → Among m all → IsOfContent s u whole m) (fits : (i : ℕ) (d : Chunk) → slice_get present i ≡ Some d → FitsPre preds d) where
    at_place : (k : ℕ) (c : Chunk) → ((t r : Term) → Among (Content k t r) whole → IsContentOf c t) → (m : Mend) → Among m all → m.cell ≡ k
        → (t : Term) × IsContentOf c t × (value u t ≡ value s m.value)
    at_place k c only m a e =
        let o = of_content m a in
        (o.term, only o.term o.present (subst (λ (i : ℕ). Among (Content i o.term o.present) whole) e o.among), o.same)

    pub pairs_hold : (cs : List Chunk) (ks : List ℕ) (ps : List Position) → ArePaired present cs ks ps → AllByRecursion (FitsPre preds) cs → ContentsAt whole cs ks
        → AllByRecursion (PositionHolds s u all) ps → (h : Store) → AllHold inst s (chunks_at (mended present ms) ks) h → AllHold inst u cs h
    pairs_hold [] [] ps a f only p h w = w
    pairs_hold [] (k ∷ ks) ps a f only p h w = absurd a
    pairs_hold (c ∷ cs) [] ps a f only p h w = absurd a
    pairs_hold (c ∷ cs) (k ∷ ks) ps a f only p h w =
        let q = subst (λ (xs : List Position). AllByRecursion (PositionHolds s u all) xs) a.5 p in
        let match = chunk_matches s u all preds k c a.0 (inst_fits_pre c f.0) (inst_fits_pre a.0 (fits k a.0 a.2)) a.3 (Every-left (PositionHolds s u all) (positions c k a.0) a.1 q) in
        let good = pair_good k c a.0 a.2 f.0 (fits k a.0 a.2) match (at_place k c only.0) in
        let first : chunks_at (mended present ms) (k ∷ ks) ≡ good.after ∷ chunks_at (mended present ms) ks = ap (λ x. chunk_or_none x ++ chunks_at (mended present ms) ks) good.there in
        let o = first_out inst s good.after (chunks_at (mended present ms) ks) h (subst (λ (xs : List Chunk). AllHold inst s xs h) first w) in
        first_holds inst u c cs h o.part o.rest o.union (good.holds o.part o.one)
        (pairs_hold cs ks a.1 a.6 f.1 only.1 (Every-right (PositionHolds s u all) (positions c k a.0) a.1 q) o.rest o.others)
