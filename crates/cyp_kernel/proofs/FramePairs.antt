-- The pairs of Frame: the focus with a chunk of the precondition, and what makes the two equal.
use Rattle.std.proofs.Common.{◌≡◌, refl, sym, ap, ◌∙◌, ℕ, suc, ◌+◌, ◌==◌, Bool, true, false, cond, List, [], ◌∷◌, map, filter, Option, Some, None, arith, subst}
use Rattle.std.specs.Prelude.{slice_get}
use Rattle.std.proofs.lemmas.Bool.{and_parts, eqb-true, false≢true}
use Rattle.std.proofs.lemmas.Option.{none-some, same_Some}
use Rattle.cyp_heap.proofs.SameChunks.{SameChunk}
use Rattle.cyp_heap.specs.Formed.{fits_pred, inst_fits, sorts_fit}
use Rattle.cyp_heap.specs.Instances.{arg_value}
use Rattle.cyp_heap.specs.Laws.{SameArgValues}
use Rattle.cyp_heap.specs.declared.chunk.Arg.{Arg}
use Rattle.cyp_heap.specs.declared.chunk.Arg.TheVariants.{Int as IntArg, Set as SetArg}
use Rattle.cyp_heap.specs.declared.chunk.Chunk.{Chunk}
use Rattle.cyp_heap.specs.declared.chunk.Chunk.TheVariants.{Block, Cell, Inst}
use Rattle.cyp_heap.specs.declared.chunk.InstOf.{InstOf}
use Rattle.cyp_heap.specs.declared.pred.Pred.{Pred}
use Rattle.cyp_heap.specs.declared.pred.Preds.{Preds}
use Rattle.cyp_step.specs.FlatRules.{pair_at}
use Rattle.cyp_term.proofs.Equality.{Decides-sort_eq}
use Rattle.cyp_term.specs.Meaning.{AllTrue, Assignment}
use Rattle.cyp_term.specs.Terms.{sort_eq}
use Rattle.cyp_term.specs.declared.term.Sort.{Sort}
use Rattle.cyp_term.specs.declared.term.Sort.TheVariants.{Int, Set}
use Rattle.cyp_unify.specs.Frames.{alike, arg_equalities, frame_lits, with_places}
use Rattle.cyp_unify.specs.declared.found.Pair.{Pair}

-- ---- chunks that are made equal

pub int_is_set : Int ≡ Set → ⊥
int_is_set e = cc

pub sort_is : (a b : Sort) → sort_eq a b ≡ true → a ≡ b
sort_is a b e = (Decides-sort_eq a b).0 e

args_same : (t : Assignment) (as' bs : List Arg) (ps : List Sort) → sorts_fit as' ps ≡ true → sorts_fit bs ps ≡ true → AllTrue t (arg_equalities as' bs)
    → SameArgValues (map (arg_value t) bs) (map (arg_value t) as')
args_same t [] [] ps p q h = tt
args_same t [] (b ∷ bs) [] p q h = absurd (false≢true q)
args_same t [] (b ∷ bs) (s ∷ ss) p q h = absurd (false≢true p)
args_same t (a ∷ as') [] [] p q h = absurd (false≢true p)
args_same t (a ∷ as') [] (s ∷ ss) p q h = absurd (false≢true q)
args_same t (a ∷ as') (b ∷ bs) [] p q h = absurd (false≢true p)
args_same t (IntArg x ∷ as') (IntArg y ∷ bs) (s ∷ ss) p q h =
    (sym h.0, args_same t as' bs ss (and_parts (sort_eq Int s) (sorts_fit as' ss) p).1 (and_parts (sort_eq Int s) (sorts_fit bs ss) q).1 h.1)
args_same t (SetArg x ∷ as') (SetArg y ∷ bs) (s ∷ ss) p q h =
    ((λ z. sym (h.0 z)), args_same t as' bs ss (and_parts (sort_eq Set s) (sorts_fit as' ss) p).1 (and_parts (sort_eq Set s) (sorts_fit bs ss) q).1 h.1)
args_same t (IntArg x ∷ as') (SetArg y ∷ bs) (s ∷ ss) p q h =
    absurd (int_is_set (sort_is Int s (and_parts (sort_eq Int s) (sorts_fit as' ss) p).0 ∙ sym (sort_is Set s (and_parts (sort_eq Set s) (sorts_fit bs ss) q).0)))
args_same t (SetArg x ∷ as') (IntArg y ∷ bs) (s ∷ ss) p q h =
    absurd (int_is_set (sort_is Int s (and_parts (sort_eq Int s) (sorts_fit bs ss) q).0 ∙ sym (sort_is Set s (and_parts (sort_eq Set s) (sorts_fit as' ss) p).0)))

args_by_pred : (t : Assignment) (i j : InstOf) (o : Option Pred) → fits_pred i o ≡ true → fits_pred j o ≡ true → AllTrue t (arg_equalities i.args j.args)
    → SameArgValues (map (arg_value t) j.args) (map (arg_value t) i.args)
args_by_pred t i j None p q h = absurd (false≢true p)
args_by_pred t i j (Some d) p q h = args_same t i.args j.args d.params p q h

-- an instance fits its predicate
abbrev pub InstFits : Preds → Chunk → Type 0
InstFits preds (Inst i) = inst_fits preds i ≡ true
InstFits preds (Block b) = Unit {0}
InstFits preds (Cell c) = Unit {0}

-- what makes the focus and the chunk equal makes them mean the same
pub frame_same : (preds : Preds) (t : Assignment) (f c : Chunk) → InstFits preds f → InstFits preds c → alike f c ≡ true → AllTrue t (frame_lits f c)
    → SameChunk t t c f
frame_same preds t (Inst i) (Inst j) p q a h =
    let same : i.pred ≡ j.pred = eqb-true i.pred j.pred a in
    (sym same, args_by_pred t i j (slice_get preds.list i.pred) p (subst (λ (k : ℕ). fits_pred j (slice_get preds.list k) ≡ true) (sym same) q) h)
frame_same preds t (Block b) (Block c) p q a h = (sym h.0, sym (eqb-true b.size c.size a))
frame_same preds t (Cell b) (Cell c) p q a h = (sym h.0, sym h.1.0)
frame_same preds t (Inst i) (Block c) p q a h = absurd (false≢true a)
frame_same preds t (Inst i) (Cell c) p q a h = absurd (false≢true a)
frame_same preds t (Block b) (Inst j) p q a h = absurd (false≢true a)
frame_same preds t (Block b) (Cell c) p q a h = absurd (false≢true a)
frame_same preds t (Cell b) (Inst j) p q a h = absurd (false≢true a)
frame_same preds t (Cell b) (Block c) p q a h = absurd (false≢true a)

-- ---- the pair with the chunk at a place

abbrev pair_of : Chunk → ℕ × Chunk → Pair
pair_of f p = record { pre = p.0; lits = frame_lits f p.1 }

-- the pair at place i, counted from k on, is the focus with the chunk there
abbrev IsPairAt : Chunk → ℕ → List Chunk → ℕ → Pair → Type 0
IsPairAt f k cs i p = (j : ℕ) × (k + j ≡ i) × (c : Chunk) × (slice_get cs j ≡ Some c) × (alike f c ≡ true) × (p.lits ≡ frame_lits f c)

pair_later : (f d : Chunk) (k : ℕ) (cs : List Chunk) (i : ℕ) (p : Pair) → IsPairAt f (suc k) cs i p → IsPairAt f k (d ∷ cs) i p
pair_later f d k cs i p h = (suc h.0, count k h.0 i h.1, h.2, h.3, h.4, h.5)
  where
    count : (k j i : ℕ) → suc k + j ≡ i → k + suc j ≡ i
    count k j i e = omega arith

pair_here : (f d : Chunk) (k : ℕ) (cs : List Chunk) (i : ℕ) (p : Pair) (b : Bool) → (k == i) ≡ b → alike f d ≡ true → (rest : List Pair)
    → (pair_at i rest ≡ Some p → IsPairAt f (suc k) cs i p) → cond b (Some (pair_of f (k, d))) (pair_at i rest) ≡ Some p → IsPairAt f k (d ∷ cs) i p
pair_here f d k cs i p true e a rest more h = (0, count k i (eqb-true k i e), d, refl, a, ap (λ (q : Pair). q.lits) (sym (same_Some (pair_of f (k, d)) p h)))
  where
    count : (k i : ℕ) → k ≡ i → k + 0 ≡ i
    count k i e = omega arith
pair_here f d k cs i p false e a rest more h = pair_later f d k cs i p (more h)

pair_test : (f d : Chunk) (k : ℕ) (cs : List Chunk) (i : ℕ) (p : Pair) (b : Bool) → alike f d ≡ b → (rest : List (ℕ × Chunk))
    → (pair_at i (map (pair_of f) rest) ≡ Some p → IsPairAt f (suc k) cs i p) → pair_at i (map (pair_of f) (cond b ((k, d) ∷ rest) rest)) ≡ Some p → IsPairAt f k (d ∷ cs) i p
pair_test f d k cs i p true e rest more h = pair_here f d k cs i p (k == i) refl e (map (pair_of f) rest) more h
pair_test f d k cs i p false e rest more h = pair_later f d k cs i p (more h)

pair_places : (f : Chunk) (cs : List Chunk) (k i : ℕ) (p : Pair)
    → pair_at i (map (pair_of f) (filter (λ (q : ℕ × Chunk). alike f q.1) (with_places k cs))) ≡ Some p → IsPairAt f k cs i p
pair_places f [] k i p h = absurd (none-some p h)
pair_places f (d ∷ cs) k i p h =
    pair_test f d k cs i p (alike f d) refl (filter (λ (q : ℕ × Chunk). alike f q.1) (with_places (suc k) cs)) (pair_places f cs (suc k) i p) h

pub pair_of_focus : (o : Option Chunk) (cs : List Chunk) (i : ℕ) (p : Pair)
    → pair_at i (elim o [ None ↦ [] | Some f ↦ map (pair_of f) (filter (λ (q : ℕ × Chunk). alike f q.1) (with_places 0 cs)) ]) ≡ Some p
    → (f : Chunk) × (c : Chunk) × (o ≡ Some f) × (slice_get cs i ≡ Some c) × (alike f c ≡ true) × (p.lits ≡ frame_lits f c)
pair_of_focus None cs i p h = absurd (none-some p h)
pair_of_focus (Some f) cs i p h =
    let q = pair_places f cs 0 i p h in
    (f, q.2, refl, subst (λ (j : ℕ). slice_get cs j ≡ Some q.2) (plus_none q.0 i q.1) q.3, q.4, q.5)
  where
    plus_none : (j i : ℕ) → 0 + j ≡ i → j ≡ i
    plus_none j i e = omega arith
