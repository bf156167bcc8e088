-- Cardinalities in goals that are read.
use Rattle.std.proofs.Common.{List, [], ap, arith, flat_map, inl, inr, map, not, refl, suc, true, ℕ, ◌&&◌, ◌++◌, ◌≤◌, ◌∷◌, ◌≡◌, ◌≢◌, ◌⊎◌}
use Rattle.std.specs.Prelude.{Bool, is_none}
use Rattle.std.specs.List.{list_all}
use Rattle.std.proofs.lemmas.Bool.{and_from}
use Rattle.cyp_heap.specs.Chunks.{arg_vars, card_vars, chunk_vars, chunks_vars, insts}
use Rattle.cyp_heap.specs.Formed.{all_differ, inst_fits, is_card_var, term_part_vars}
use Rattle.cyp_heap.specs.declared.chunk.Chunk.{Chunk}
use Rattle.cyp_heap.specs.declared.chunk.Chunk.TheVariants.{Block, Cell, Inst}
use Rattle.cyp_heap.specs.declared.chunk.InstOf.{InstOf}
use Rattle.cyp_heap.specs.declared.pred.Preds.{Preds}
use Rattle.cyp_term.specs.declared.term.Sort.TheVariants.{Card}
use Rattle.cyp_term.specs.declared.term.Var.{Var}
use Rattle.cyp_term.proofs.Lists.{Among, Among-cases, Among-left, Among-right}
use Rattle.cyp_names.specs.ReadTerms.{Scope, read_chunk}
use Rattle.cyp_names.specs.Specifications.{with_cards}
use Rattle.cyp_text.specs.declared.tree.ChunkTree.{ChunkTree}
use Rattle.cyp_text.specs.declared.tree.ChunkTree.TheVariants.{BlockOf, InstanceOf, NamedCell, TermCell}
use Rattle.cyp_text.specs.declared.tree.PredTree.{PredTree}
use Rattle.cyp_formed.proofs.Distinct.{not_in}

abbrev pub cards : List Chunk → List Var
cards cs = flat_map (λ (i : InstOf). card_vars i.card) (insts cs)

pub all_cards : (k : ℕ) (cs : List Chunk) → list_all (λ (i : InstOf). is_card_var i.card) (insts (with_cards k cs)) ≡ true
all_cards k [] = refl
all_cards k (Inst i ∷ cs) = all_cards (suc k) cs
all_cards k (Block b ∷ cs) = all_cards k cs
all_cards k (Cell c ∷ cs) = all_cards k cs

pub no_cards : (qs : List PredTree) (sc : Scope) (cs : List ChunkTree) → list_all (λ (i : InstOf). is_none i.card) (insts (map (read_chunk qs sc) cs)) ≡ true
no_cards qs sc [] = refl
no_cards qs sc (NamedCell i t ∷ cs) = no_cards qs sc cs
no_cards qs sc (TermCell a t ∷ cs) = no_cards qs sc cs
no_cards qs sc (BlockOf a p n ∷ cs) = no_cards qs sc cs
no_cards qs sc (InstanceOf i xs ∷ cs) = no_cards qs sc cs

-- their numbers rise
cards_above : (k : ℕ) (cs : List Chunk) (w : Var) → Among w (cards (with_cards k cs)) → k ≤ w.number
cards_above k [] w m = absurd m
cards_above k (Inst i ∷ cs) w (inl e) = omega (arith, ap (λ (v : Var). v.number) e)
cards_above k (Inst i ∷ cs) w (inr m) = omega (arith, cards_above (suc k) cs w m)
cards_above k (Block b ∷ cs) w m = cards_above k cs w m
cards_above k (Cell c ∷ cs) w m = cards_above k cs w m

pub cards_differ : (k : ℕ) (cs : List Chunk) → all_differ (cards (with_cards k cs)) ≡ true
cards_differ k [] = refl
cards_differ k (Block b ∷ cs) = cards_differ k cs
cards_differ k (Cell c ∷ cs) = cards_differ k cs
cards_differ k (Inst i ∷ cs) =
    and_from _ _ (ap not (not_in (record { sort = Card; number = k }) (cards (with_cards (suc k) cs)) apart)) (cards_differ (suc k) cs)
  where
    apart : (w : Var) → Among w (cards (with_cards (suc k) cs)) → record { sort = Card; number = k } ≢ w
    apart w m e =
        let above : suc k ≤ w.number = cards_above (suc k) cs w m in
        let same : k ≡ w.number = ap (λ (v : Var). v.number) e in
        omega arith

-- ---- what the cardinalities leave as it is

pub parts_with_cards : (k : ℕ) (cs : List Chunk) → flat_map term_part_vars (with_cards k cs) ≡ flat_map term_part_vars cs
parts_with_cards k [] = refl
parts_with_cards k (Inst i ∷ cs) = ap (λ (vs : List Var). flat_map arg_vars i.args ++ vs) (parts_with_cards (suc k) cs)
parts_with_cards k (Block b ∷ cs) = ap (λ (vs : List Var). term_part_vars (Block b) ++ vs) (parts_with_cards k cs)
parts_with_cards k (Cell c ∷ cs) = ap (λ (vs : List Var). term_part_vars (Cell c) ++ vs) (parts_with_cards k cs)

pub fits_with_cards : (preds : Preds) (k : ℕ) (cs : List Chunk) → list_all (inst_fits preds) (insts (with_cards k cs)) ≡ list_all (inst_fits preds) (insts cs)
fits_with_cards preds k [] = refl
fits_with_cards preds k (Inst i ∷ cs) = ap (λ (b : Bool). inst_fits preds i && b) (fits_with_cards preds (suc k) cs)
fits_with_cards preds k (Block b ∷ cs) = fits_with_cards preds k cs
fits_with_cards preds k (Cell c ∷ cs) = fits_with_cards preds k cs

-- a variable of the chunks is one of their terms or a cardinality
pub part_or_card : (k : ℕ) (cs : List Chunk) (w : Var) → Among w (chunks_vars (with_cards k cs)) → Among w (flat_map term_part_vars cs) ⊎ (w.sort ≡ Card)
part_or_card k [] w m = absurd m
part_or_card k (Inst i ∷ cs) w m = elim (Among-cases w (flat_map arg_vars i.args ++ record { sort = Card; number = k } ∷ []) _ m) [
  | inl a ↦ elim (Among-cases w (flat_map arg_vars i.args) _ a) [
    | inl b ↦ inl (Among-left w (flat_map arg_vars i.args) _ b)
    | inr b ↦ elim b [ inl e ↦ inr (ap (λ (v : Var). v.sort) e) | inr n ↦ absurd n ]
  ]
  | inr a ↦ elim (part_or_card (suc k) cs w a) [ inl b ↦ inl (Among-right w (flat_map arg_vars i.args) _ b) | inr e ↦ inr e ]
]
part_or_card k (Block b ∷ cs) w m = elim (Among-cases w (chunk_vars (Block b)) _ m) [
  | inl a ↦ inl (Among-left w (chunk_vars (Block b)) _ a)
  | inr a ↦ elim (part_or_card k cs w a) [ inl n ↦ inl (Among-right w (chunk_vars (Block b)) _ n) | inr e ↦ inr e ]
]
part_or_card k (Cell c ∷ cs) w m = elim (Among-cases w (chunk_vars (Cell c)) _ m) [
  | inl a ↦ inl (Among-left w (chunk_vars (Cell c)) _ a)
  | inr a ↦ elim (part_or_card k cs w a) [ inl n ↦ inl (Among-right w (chunk_vars (Cell c)) _ n) | inr e ↦ inr e ]
]
