-- The chunks of a companion's precondition and those that are paired with them.
use Rattle.std.proofs.Common.{◌≡◌, refl, sym, ◌∙◌, ℕ, ◌⊎◌, Bool, true, false, not, ◌&&◌, List, [], ◌∷◌, ◌++◌, map, Option, Some, None, subst}
use Rattle.std.specs.Prelude.{◌==◌, slice_get}
use Rattle.std.specs.List.{AllByRecursion, list_any}
use Rattle.std.proofs.lemmas.Bool.{and_parts, eqb-true, false≢true, not-true}
use Rattle.std.proofs.lemmas.Option.{none-some, same_Some}
use Rattle.cyp_heap.specs.Formed.{fits_pred, sorts_fit}
use Rattle.cyp_heap.specs.Instances.{arg_value}
use Rattle.cyp_heap.specs.Laws.{SameArgValues}
use Rattle.cyp_heap.specs.declared.chunk.Arg.{Arg}
use Rattle.cyp_heap.specs.declared.chunk.Arg.TheVariants.{Int as IntArg, Set as SetArg}
use Rattle.cyp_heap.specs.declared.chunk.Chunk.{Chunk}
use Rattle.cyp_heap.specs.declared.chunk.Chunk.TheVariants.{Block, Cell, Inst}
use Rattle.cyp_heap.specs.declared.chunk.InstOf.{InstOf}
use Rattle.cyp_heap.specs.declared.pred.Pred.{Pred}
use Rattle.cyp_heap.specs.declared.pred.Preds.{Preds}
use Rattle.cyp_kernel.proofs.Allowed.{mapped_some, taken_some}
use Rattle.cyp_kernel.proofs.FramePairs.{InstFits, int_is_set, sort_is}
use Rattle.cyp_kernel.proofs.PairsOut.{ArePlaces, is_taken}
use Rattle.cyp_kernel.proofs.WalkFinds.{IsMended, PositionHolds}
use Rattle.cyp_term.proofs.Lists.{Every-left, Every-right}
use Rattle.cyp_term.specs.Meaning.{Assignment, value}
use Rattle.cyp_term.specs.Terms.{sort_eq}
use Rattle.cyp_term.specs.declared.term.Sort.{Sort}
use Rattle.cyp_term.specs.declared.term.Sort.TheVariants.{Int, Set}
use Rattle.cyp_unify.specs.Frames.{alike}
use Rattle.cyp_unify.specs.Matches.{Position, arg_positions, card_position, pair_positions, positions}
use Rattle.cyp_unify.specs.declared.found.Mend.{Mend}

-- each chunk of the companion has a present one of its kind, at a place of its own, and these are the positions
abbrev pub ArePaired : List Chunk → List Chunk → List ℕ → List Position → Type 0
ArePaired present [] [] ps = ps ≡ []
ArePaired present (c ∷ cs) (k ∷ ks) ps =
    (d : Chunk) × (qs : List Position) × (slice_get present k ≡ Some d) × (alike c d ≡ true) × (is_taken ks k ≡ false) × (ps ≡ positions c k d ++ qs) × ArePaired present cs ks qs
ArePaired present _ _ ps = ⊥

pub are_paired : (present cs : List Chunk) (ks : List ℕ) (ps : List Position) → pair_positions present cs ks ≡ Some ps → ArePaired present cs ks ps
are_paired present [] [] ps e = sym (same_Some [] ps e)
are_paired present [] (k ∷ ks) ps e = absurd (none-some ps e)
are_paired present (c ∷ cs) [] ps e = absurd (none-some ps e)
are_paired present (c ∷ cs) (k ∷ ks) ps e =
    let a = taken_some (slice_get present k) _ ps e in
    let b = taken_by (alike c a.0 && not (list_any (λ j. j == k) ks)) _ ps a.2 in
    let d = and_parts (alike c a.0) (not (list_any (λ j. j == k) ks)) b.0 in
    let m = mapped_some (λ (qs : List Position). positions c k a.0 ++ qs) (pair_positions present cs ks) ps b.1 in
    (a.0, m.0, a.1, d.0, not-true (is_taken ks k) d.1, sym m.2, are_paired present cs ks m.0 m.1)
  where
    taken_by : {A : Type 0} (b : Bool) (x : Option A) (r : A) → elim b [ false ↦ None | true ↦ x ] ≡ Some r → (b ≡ true) × (x ≡ Some r)
    taken_by true x r e = (refl, e)
    taken_by false x r e = absurd (none-some r e)

pub their_places : (present cs : List Chunk) (ks : List ℕ) (ps : List Position) → ArePaired present cs ks ps → ArePlaces present ks
their_places present [] [] ps a = tt
their_places present [] (k ∷ ks) ps a = absurd a
their_places present (c ∷ cs) [] ps a = absurd a
their_places present (c ∷ cs) (k ∷ ks) ps a = (a.4, (a.0, a.2), their_places present cs ks a.1 a.6)

module _ (s u : Assignment) (ms : List Mend) where
  -- the companion's chunk says of u what the present one says of s, a content perhaps after a store
  abbrev pub ChunkMatches : ℕ → Chunk → Chunk → Type 0
  ChunkMatches k (Inst i) (Inst j) =
      (i.pred ≡ j.pred) × SameArgValues (map (arg_value u) i.args) (map (arg_value s) j.args) × AllByRecursion (PositionHolds s u ms) (card_position i.card j.card)
  ChunkMatches k (Block b) (Block c) = (value u b.at ≡ value s c.at) × (b.size ≡ c.size)
  ChunkMatches k (Cell b) (Cell c) = (value u b.at ≡ value s c.at) × ((value u b.content ≡ value s c.content) ⊎ IsMended s u ms k b.content)
  ChunkMatches k _ _ = ⊥

  args_match : (xs ys : List Arg) (ps : List Sort) → sorts_fit xs ps ≡ true → sorts_fit ys ps ≡ true → AllByRecursion (PositionHolds s u ms) (arg_positions xs ys)
      → SameArgValues (map (arg_value u) xs) (map (arg_value s) ys)
  args_match [] [] ps p q h = tt
  args_match [] (b ∷ ys) [] p q h = absurd (false≢true q)
  args_match [] (b ∷ ys) (o ∷ os) p q h = absurd (false≢true p)
  args_match (a ∷ xs) [] [] p q h = absurd (false≢true p)
  args_match (a ∷ xs) [] (o ∷ os) p q h = absurd (false≢true q)
  args_match (a ∷ xs) (b ∷ ys) [] p q h = absurd (false≢true p)
  args_match (IntArg x ∷ xs) (IntArg y ∷ ys) (o ∷ os) p q h =
      (h.0, args_match xs ys os (and_parts (sort_eq Int o) (sorts_fit xs os) p).1 (and_parts (sort_eq Int o) (sorts_fit ys os) q).1 h.1)
  args_match (SetArg x ∷ xs) (SetArg y ∷ ys) (o ∷ os) p q h =
      (h.0, args_match xs ys os (and_parts (sort_eq Set o) (sorts_fit xs os) p).1 (and_parts (sort_eq Set o) (sorts_fit ys os) q).1 h.1)
  args_match (IntArg x ∷ xs) (SetArg y ∷ ys) (o ∷ os) p q h =
      absurd (int_is_set (sort_is Int o (and_parts (sort_eq Int o) (sorts_fit xs os) p).0 ∙ sym (sort_is Set o (and_parts (sort_eq Set o) (sorts_fit ys os) q).0)))
  args_match (SetArg x ∷ xs) (IntArg y ∷ ys) (o ∷ os) p q h =
      absurd (int_is_set (sort_is Int o (and_parts (sort_eq Int o) (sorts_fit ys os) q).0 ∙ sym (sort_is Set o (and_parts (sort_eq Set o) (sorts_fit xs os) p).0)))

  by_pred : (i j : InstOf) (o : Option Pred) → fits_pred i o ≡ true → fits_pred j o ≡ true → AllByRecursion (PositionHolds s u ms) (arg_positions i.args j.args)
      → SameArgValues (map (arg_value u) i.args) (map (arg_value s) j.args)
  by_pred i j None p q h = absurd (false≢true p)
  by_pred i j (Some d) p q h = args_match i.args j.args d.params p q h

  -- where the positions hold the chunks match
  pub chunk_matches : (preds : Preds) (k : ℕ) (c d : Chunk) → InstFits preds c → InstFits preds d → alike c d ≡ true → AllByRecursion (PositionHolds s u ms) (positions c k d) → ChunkMatches k c d
  chunk_matches preds k (Inst i) (Inst j) p q a h =
      let same : i.pred ≡ j.pred = eqb-true i.pred j.pred a in (
        same,
        by_pred i j (slice_get preds.list i.pred) p (subst (λ (o : ℕ). fits_pred j (slice_get preds.list o) ≡ true) (sym same) q)
            (Every-left (PositionHolds s u ms) (arg_positions i.args j.args) (card_position i.card j.card) h),
        Every-right (PositionHolds s u ms) (arg_positions i.args j.args) (card_position i.card j.card) h,
      )
  chunk_matches preds k (Block b) (Block c) p q a h = (h.0, eqb-true b.size c.size a)
  chunk_matches preds k (Cell b) (Cell c) p q a h = (h.0, h.1.0)
  chunk_matches preds k (Inst i) (Block c) p q a h = absurd (false≢true a)
  chunk_matches preds k (Inst i) (Cell c) p q a h = absurd (false≢true a)
  chunk_matches preds k (Block b) (Inst j) p q a h = absurd (false≢true a)
  chunk_matches preds k (Block b) (Cell c) p q a h = absurd (false≢true a)
  chunk_matches preds k (Cell b) (Inst j) p q a h = absurd (false≢true a)
  chunk_matches preds k (Cell b) (Block c) p q a h = absurd (false≢true a)
