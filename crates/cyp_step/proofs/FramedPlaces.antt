-- The focus is there, and the chunk that frames it.
use Rattle.std.proofs.Common.{◌≡◌, ◌+◌, ◌==◌, ◌<◌, ℕ, suc, [], ◌∷◌, Bool, true, false, List, None, Option, Some, cond, filter, length, map, refl, slice_get, sym, arith}
use Rattle.std.proofs.lemmas.Bool.{eqb-true}
use Rattle.cyp_heap.specs.declared.chunk.Chunk.{Chunk}
use Rattle.cyp_heap.specs.declared.goal.Goal.{Goal}
use Rattle.cyp_step.specs.FlatGoals.{lits_at}
use Rattle.cyp_term.specs.declared.lit.Lit.{Lit}
use Rattle.cyp_unify.specs.Frames.{alike, frame_lits, frame_pairs, with_places}
use Rattle.cyp_unify.specs.declared.found.Pair.{Pair}

module _ (i : ℕ) (ls : List Lit) where
  -- the chunk with what makes the focus equal to it
  abbrev pub pair_with : Chunk → ℕ × Chunk → Pair
  pair_with f p = record { pre = p.0; lits = frame_lits f p.1 }

  -- at one chunk: whether it is alike, and whether it is at the place
  at_chunk : (f : Chunk) (k m : ℕ) (a b : Bool) (c : Chunk) (ps : List (ℕ × Chunk)) → (k == i) ≡ b → (lits_at i (map (pair_with f) ps) ≡ Some ls → i < suc k + m)
      → lits_at i (map (pair_with f) (cond a ((k, c) ∷ ps) ps)) ≡ Some ls → i < k + suc m
  at_chunk f k m false b c ps e later h = let lt : i < suc k + m = later h in omega arith
  at_chunk f k m true true c ps e later h = let same : k ≡ i = eqb-true k i e in omega arith
  at_chunk f k m true false c ps e later h =
      let rest : lits_at i (map (pair_with f) ps) ≡ Some ls = rw e at h in
      let lt : i < suc k + m = later rest in
      omega arith

  place_within : (f : Chunk) (k : ℕ) (cs : List Chunk) → lits_at i (map (pair_with f) (filter (λ (p : ℕ × Chunk). alike f p.1) (with_places k cs))) ≡ Some ls → i < k + length cs
  place_within f k [] h = cc
  place_within f k (c ∷ cs) h =
      at_chunk f k (length cs) (alike f c) (k == i) c (filter (λ (p : ℕ × Chunk). alike f p.1) (with_places (suc k) cs)) refl (place_within f (suc k) cs) h

  -- the pairs with this focus
  abbrev pub with_focus : List Chunk → Option Chunk → List Pair
  with_focus cs None = []
  with_focus cs (Some f) = map (pair_with f) (filter (λ (p : ℕ × Chunk). alike f p.1) (with_places 0 cs))

  both_there : (ds cs : List Chunk) → lits_at i (with_focus cs (slice_get ds 0)) ≡ Some ls → (i < length cs) × (0 < length ds)
  both_there [] cs h = let none : ⊥ = cc in absurd none
  both_there (f ∷ ds) cs h = let lt : i < 0 + length cs = place_within f 0 cs h in (omega arith, omega arith)

  pub framed_there : (g : Goal) → Some ls ≡ lits_at i (frame_pairs g) → (i < length g.pre.chunks) × (0 < length g.post.chunks)
  framed_there g e = both_there g.post.chunks g.pre.chunks (sym e)
