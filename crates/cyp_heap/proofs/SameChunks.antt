-- Chunks with the same values hold in the same heaps.
use Rattle.std.proofs.Common.{◌≡◌, sym, ℕ, List, [], ◌∷◌, map, ℤ, subst}
use Rattle.cyp_heap.specs.Instances.{ArgValue, ChunksHold, InstanceHolds, Instances, arg_value}
use Rattle.cyp_heap.specs.Laws.{SameArgValues}
use Rattle.cyp_heap.specs.Stores.{IsBlock, IsCell, Store}
use Rattle.cyp_heap.specs.declared.chunk.Chunk.{Chunk}
use Rattle.cyp_heap.specs.declared.chunk.Chunk.TheVariants.{Block, Cell, Inst}
use Rattle.cyp_heap.specs.declared.pred.Preds.{Preds}
use Rattle.cyp_term.specs.Meaning.{Assignment, value}
use Rattle.cyp_heap.proofs.Listings.{by_values, same_values_sym}

-- the chunks are of one kind, and what they say of the heap has the same values in the two assignments
abbrev pub SameChunk : Assignment → Assignment → Chunk → Chunk → Type 0
SameChunk s t (Inst i) (Inst j) = (i.pred ≡ j.pred) × SameArgValues (map (arg_value s) i.args) (map (arg_value t) j.args)
SameChunk s t (Block b) (Block c) = (value s b.at ≡ value t c.at) × (b.size ≡ c.size)
SameChunk s t (Cell b) (Cell c) = (value s b.at ≡ value t c.at) × (value s b.content ≡ value t c.content)
SameChunk s t _ _ = ⊥

abbrev pub SameChunks : Assignment → Assignment → List Chunk → List Chunk → Type 0
SameChunks s t [] [] = Unit {0}
SameChunks s t (c ∷ cs) (d ∷ ds) = SameChunk s t c d × SameChunks s t cs ds
SameChunks s t _ _ = ⊥

pub same_chunk_sym : (s t : Assignment) (c d : Chunk) → SameChunk s t c d → SameChunk t s d c
same_chunk_sym s t (Inst i) (Inst j) e = (sym e.0, same_values_sym (map (arg_value s) i.args) (map (arg_value t) j.args) e.1)
same_chunk_sym s t (Block b) (Block c) e = (sym e.0, sym e.1)
same_chunk_sym s t (Cell b) (Cell c) e = (sym e.0, sym e.1)
same_chunk_sym s t c d e = absurd e

pub same_chunks_sym : (s t : Assignment) (cs ds : List Chunk) → SameChunks s t cs ds → SameChunks t s ds cs
same_chunks_sym s t [] [] e = tt
same_chunks_sym s t (c ∷ cs) (d ∷ ds) e = (same_chunk_sym s t c d e.0, same_chunks_sym s t cs ds e.1)
same_chunks_sym s t [] (d ∷ ds) e = absurd e
same_chunks_sym s t (c ∷ cs) [] e = absurd e

-- instances that don't look at how a set is listed
abbrev pub Respects : Instances → Type 0
Respects inst = (p : ℕ) (xs ys : List ArgValue) (h : Store) (n : ℕ) → SameArgValues xs ys → inst p xs h n → inst p ys h n

module _ (inst : Instances) (respects : Respects inst) (s t : Assignment) where
  pub chunks_same : (cs ds : List Chunk) (h : Store) (ns : List ℕ) → SameChunks s t cs ds → ChunksHold inst s cs h ns → ChunksHold inst t ds h ns
  chunks_same [] [] h ns e k = k
  chunks_same [] (d ∷ ds) h ns e k = absurd e
  chunks_same (c ∷ cs) [] h ns e k = absurd e
  chunks_same (Inst i ∷ cs) (Inst j ∷ ds) h ns e k = (
    k.0,
    k.1,
    k.2,
    k.3,
    k.4,
    k.5,
    subst (λ (p : ℕ). inst p (map (arg_value t) j.args) k.0 k.2) e.0.0 (respects i.pred (map (arg_value s) i.args) (map (arg_value t) j.args) k.0 k.2 e.0.1 k.6),
    chunks_same cs ds k.1 k.3 e.1 k.7,
  )
  chunks_same (Block b ∷ cs) (Block c ∷ ds) h ns e k =
      (k.0, k.1, k.2, subst (λ (n : ℕ). IsBlock k.0 (value t c.at) n) e.0.1 (subst (λ (z : ℤ). IsBlock k.0 z b.size) e.0.0 k.3), chunks_same cs ds k.1 ns e.1 k.4)
  chunks_same (Cell b ∷ cs) (Cell c ∷ ds) h ns e k =
      (k.0, k.1, k.2, subst (λ (z : ℤ). IsCell k.0 (value t c.at) z) e.0.1 (subst (λ (z : ℤ). IsCell k.0 z (value s b.content)) e.0.0 k.3), chunks_same cs ds k.1 ns e.1 k.4)
  chunks_same (Inst i ∷ cs) (Block c ∷ ds) h ns e k = absurd e.0
  chunks_same (Inst i ∷ cs) (Cell c ∷ ds) h ns e k = absurd e.0
  chunks_same (Block b ∷ cs) (Inst j ∷ ds) h ns e k = absurd e.0
  chunks_same (Block b ∷ cs) (Cell c ∷ ds) h ns e k = absurd e.0
  chunks_same (Cell b ∷ cs) (Inst j ∷ ds) h ns e k = absurd e.0
  chunks_same (Cell b ∷ cs) (Block c ∷ ds) h ns e k = absurd e.0

-- chunks of the same values hold alike
pub side_chunks_same : (preds : Preds) (s t : Assignment) (cs ds : List Chunk) (h : Store) (ns : List ℕ) → SameChunks s t cs ds
    → ChunksHold (InstanceHolds preds) s cs h ns → ChunksHold (InstanceHolds preds) t ds h ns
side_chunks_same preds s t cs ds h ns e k = chunks_same (InstanceHolds preds) (by_values preds) s t cs ds h ns e k
