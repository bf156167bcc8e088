-- Cardinalities are given one by one, and change neither the number nor the order of chunks.
use Rattle.std.proofs.Common.{Bool, List, [], append_assoc, ap, arith, length, map, refl, suc, sym, ℕ, ◌+◌, ◌++◌, ◌≤◌, ◌∙◌, ◌∷◌, ◌≡◌, ◌&&◌}
use Rattle.std.specs.Prelude.{nat_le}
use Rattle.std.specs.List.{list_all}
use Rattle.std.proofs.lemmas.List.{length-map}
use Rattle.cyp_heap.specs.Chunks.{in_order, kind_rank}
use Rattle.cyp_heap.specs.declared.chunk.Chunk.{Chunk}
use Rattle.cyp_heap.specs.declared.chunk.Chunk.TheVariants.{Block, Cell, Inst}
use Rattle.cyp_reading.specs.Cards.{next_card, with_card}
use Rattle.cyp_reading.specs.Mended.{mended, mended_body}
use Rattle.cyp_reading.proofs.Lengths.{kinds_length}
use Rattle.cyp_names.specs.Bodies.{in_kinds}
use Rattle.cyp_names.specs.ReadTerms.{Scope, read_chunk, read_chunks}
use Rattle.cyp_names.specs.Specifications.{with_cards}
use Rattle.cyp_text.specs.declared.tree.BodyTree.{BodyTree}
use Rattle.cyp_text.specs.declared.tree.PredTree.{PredTree}

card_step : (k : ℕ) (c : Chunk) (cs : List Chunk) → with_cards k (c ∷ cs) ≡ with_card k c ∷ with_cards (next_card k c) cs
card_step k (Inst i) cs = refl
card_step k (Block b) cs = refl
card_step k (Cell c) cs = refl

pub next_most : (k : ℕ) (c : Chunk) → next_card k c ≤ k + 1
next_most k (Inst i) = omega arith
next_most k (Block b) = omega arith
next_most k (Cell c) = omega arith

-- a turn of the loop
pub cards_turn : (k : ℕ) (c : Chunk) (items rest given new whole : List Chunk) → items ≡ c ∷ rest → new ≡ given ++ with_card k c ∷ [] → given ++ with_cards k items ≡ whole → new ++ with_cards (next_card k c) rest ≡ whole
cards_turn k c items rest given new whole is added h =
    let later : List Chunk = with_cards (next_card k c) rest in
    ap (λ (us : List Chunk). us ++ later) added ∙ append_assoc given (with_card k c ∷ []) later
    ∙ ap (λ (us : List Chunk). given ++ us) (sym (ap (with_cards k) is ∙ card_step k c rest)) ∙ h

-- the order stays
ranks_given : (r k : ℕ) (cs : List Chunk) → list_all (λ d. nat_le r (kind_rank d)) (with_cards k cs) ≡ list_all (λ d. nat_le r (kind_rank d)) cs
ranks_given r k [] = refl
ranks_given r k (Inst i ∷ cs) = ap (λ (b : Bool). nat_le r 0 && b) (ranks_given r (suc k) cs)
ranks_given r k (Block b ∷ cs) = ap (λ (b : Bool). nat_le r 1 && b) (ranks_given r k cs)
ranks_given r k (Cell c ∷ cs) = ap (λ (b : Bool). nat_le r 2 && b) (ranks_given r k cs)

pub order_given : (k : ℕ) (cs : List Chunk) → in_order (with_cards k cs) ≡ in_order cs
order_given k [] = refl
order_given k (Inst i ∷ cs) = λ j. ranks_given 0 (suc k) cs j && order_given (suc k) cs j
order_given k (Block b ∷ cs) = λ j. ranks_given 1 k cs j && order_given k cs j
order_given k (Cell c ∷ cs) = λ j. ranks_given 2 k cs j && order_given k cs j

-- as many chunks as the body has
pub chunks_counted : (qs : List PredTree) (sc : Scope) (b : BodyTree) → length (read_chunks qs sc (mended_body b)) ≡ length b.chunks
chunks_counted qs sc b = length-map (in_kinds (map mended b.chunks)) (read_chunk qs sc) ∙ kinds_length (map mended b.chunks) ∙ length-map b.chunks mended
