-- A side of a goal after a substitution holds where the side holds of the values that the substitution gives its variables.
use Rattle.std.proofs.Common.{◌≡◌, ◌↔◌, refl, sym, ◌∙◌, ℕ, List, [], ◌∷◌, map, Option, Some, None, inl}
use Rattle.cyp_heap.proofs.Agreement.{cards_of}
use Rattle.cyp_heap.proofs.Applied.{apply_chunks_law}
use Rattle.cyp_heap.specs.Assertions.{CardIs, CardsAre, SideHolds}
use Rattle.cyp_heap.specs.Chunks.{apply_card, apply_chunk, card_vars}
use Rattle.cyp_heap.specs.Stores.{Store}
use Rattle.cyp_heap.specs.declared.chunk.Chunk.{Chunk}
use Rattle.cyp_heap.specs.declared.chunk.Chunk.TheVariants.{Block, Cell, Inst}
use Rattle.cyp_heap.specs.declared.pred.Preds.{Preds}
use Rattle.cyp_term.proofs.Lists.{Among, Among-left, Among-right}
use Rattle.cyp_term.proofs.Substitution.{apply_law}
use Rattle.cyp_term.specs.Meaning.{AllTrue, Assignment, under}
use Rattle.cyp_term.specs.Terms.{apply_lit, apply_var}
use Rattle.cyp_term.specs.declared.lit.Lit.{Lit}
use Rattle.cyp_term.specs.declared.subst.Subst.{Subst}
use Rattle.cyp_term.specs.declared.term.Var.{Var}

module _ (by : Subst) (u : Assignment) where
  pub lits_applied : (ls : List Lit) → AllTrue (under by u) ls ↔ AllTrue u (map (apply_lit by) ls)
  lits_applied [] = (λ h. h, λ h. h)
  lits_applied (l ∷ ls) =
      let one = apply_law by u l in
      let more = lits_applied ls in
      (λ h. (one.1 h.0, more.0 h.1), λ h. (one.0 h.0, more.1 h.1))

  -- the variable that stands for a cardinality has the value that the substitution gives the cardinality
  abbrev pub Stands : List Var → Type 0
  Stands cs = (c : Var) → Among c cs → (under by u).number c ≡ u.number (apply_var by c)

  card_applied : (o : Option Var) (n : ℕ) → Stands (card_vars o) → CardIs (under by u) o n ↔ CardIs u (apply_card by o) n
  card_applied None n e = (λ h. h, λ h. h)
  card_applied (Some c) n e = (λ h. sym (e c (inl refl)) ∙ h, λ h. e c (inl refl) ∙ h)

  cards_applied : (cs : List Chunk) (ns : List ℕ) → Stands (cards_of cs) → CardsAre (under by u) cs ns ↔ CardsAre u (map (apply_chunk by) cs) ns
  cards_applied [] ns e = (λ h. h, λ h. h)
  cards_applied (Inst i ∷ cs) [] e = (λ h. absurd h, λ h. absurd h)
  cards_applied (Inst i ∷ cs) (n ∷ ns) e =
      let one = card_applied i.card n (λ c k. e c (Among-left c (card_vars i.card) (cards_of cs) k)) in
      let more = cards_applied cs ns (λ c k. e c (Among-right c (card_vars i.card) (cards_of cs) k)) in
      (λ h. (one.0 h.0, more.0 h.1), λ h. (one.1 h.0, more.1 h.1))
  cards_applied (Block b ∷ cs) ns e = cards_applied cs ns e
  cards_applied (Cell c ∷ cs) ns e = cards_applied cs ns e

  pub side_applied : (preds : Preds) (ls : List Lit) (cs : List Chunk) (h : Store) (ns : List ℕ) → Stands (cards_of cs)
      → SideHolds preds (under by u) ls cs h ns ↔ SideHolds preds u (map (apply_lit by) ls) (map (apply_chunk by) cs) h ns
  side_applied preds ls cs h ns e =
      let lits = lits_applied ls in
      let chunks = apply_chunks_law preds by u cs h ns in
      let cards = cards_applied cs ns e in
      (λ k. (lits.0 k.0, chunks.1 k.1, cards.0 k.2), λ k. (lits.1 k.0, chunks.0 k.1, cards.1 k.2))
