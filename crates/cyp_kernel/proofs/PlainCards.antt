-- Cardinalities of instances that are variables of sort Card, and substitutions that leave them.
use Rattle.std.proofs.Common.{◌≡◌, refl, sym, ap, ◌∙◌, Bool, true, cond, List, [], ◌∷◌, ◌++◌, map, Option, Some, None}
use Rattle.std.specs.List.{list_all}
use Rattle.std.proofs.lemmas.Bool.{and_from, and_parts, false_from_ne_true}
use Rattle.std.proofs.lemmas.List.Folds.{list_all-append}
use Rattle.cyp_goal.specs.Solving.{bind_int, bind_set}
use Rattle.cyp_heap.proofs.Agreement.{cards_of}
use Rattle.cyp_heap.specs.Chunks.{apply_card, apply_chunk, card_vars, insts}
use Rattle.cyp_heap.specs.declared.chunk.Chunk.{Chunk}
use Rattle.cyp_heap.specs.declared.chunk.Chunk.TheVariants.{Block, Cell, Inst}
use Rattle.cyp_heap.specs.declared.chunk.InstOf.{InstOf}
use Rattle.cyp_kernel.proofs.AppliedSides.{Stands}
use Rattle.cyp_term.proofs.Equality.{Decides-sort_eq, Decides-var_eq}
use Rattle.cyp_term.proofs.Lists.{each_at}
use Rattle.cyp_term.specs.Meaning.{Assignment, image_value}
use Rattle.cyp_term.specs.Terms.{int_image, sort_eq, var_at, var_eq}
use Rattle.cyp_term.specs.declared.lit.SetTerm.{SetTerm}
use Rattle.cyp_term.specs.declared.subst.Subst.{Subst}
use Rattle.cyp_term.specs.declared.term.Sort.TheVariants.{Card, Int}
use Rattle.cyp_term.specs.declared.term.Term.{Term}
use Rattle.cyp_term.specs.declared.term.Var.{Var}

abbrev pub of_card : Var → Bool
of_card v = sort_eq v.sort Card

-- the cardinalities of the instances are variables of sort Card
abbrev pub PlainCards : List Chunk → Type 0
PlainCards cs = list_all of_card (cards_of cs) ≡ true

-- no variable of sort Card is bound
abbrev pub SparesCards : Subst → Type 0
SparesCards by = (c : Var) → of_card c ≡ true → int_image by.ints c ≡ None

-- where the test of a cardinality tells that it is one
pub plain_cards : (test : Option Var → Bool) → ((o : Option Var) → test o ≡ true → list_all of_card (card_vars o) ≡ true)
    → (cs : List Chunk) → list_all (λ (i : InstOf). test i.card) (insts cs) ≡ true → PlainCards cs
plain_cards test tells [] h = refl
plain_cards test tells (Inst i ∷ cs) h =
    let both = and_parts (test i.card) (list_all (λ (j : InstOf). test j.card) (insts cs)) h in
    list_all-append of_card (card_vars i.card) (cards_of cs)
    ∙ and_from (list_all of_card (card_vars i.card)) (list_all of_card (cards_of cs)) (tells i.card both.0) (plain_cards test tells cs both.1)
plain_cards test tells (Block b ∷ cs) h = plain_cards test tells cs h
plain_cards test tells (Cell c ∷ cs) h = plain_cards test tells cs h

module _ (by : Subst) (spares : SparesCards by) where
  card_stays : (o : Option Var) → list_all of_card (card_vars o) ≡ true → card_vars (apply_card by o) ≡ card_vars o
  card_stays None h = refl
  card_stays (Some c) h = ap (λ (o : Option Term). var_at c o ∷ []) (spares c (and_parts (of_card c) true h).0)

  cards_stay : (cs : List Chunk) → PlainCards cs → cards_of (map (apply_chunk by) cs) ≡ cards_of cs
  cards_stay [] h = refl
  cards_stay (Inst i ∷ cs) h =
      let both = and_parts (list_all of_card (card_vars i.card)) (list_all of_card (cards_of cs)) (sym (list_all-append of_card (card_vars i.card) (cards_of cs)) ∙ h) in
      let one = card_stays i.card both.0 in
      let more = cards_stay cs both.1 in
      λ k. one k ++ more k
  cards_stay (Block b ∷ cs) h = cards_stay cs h
  cards_stay (Cell c ∷ cs) h = cards_stay cs h

  pub plain_stays : (cs : List Chunk) → PlainCards cs → PlainCards (map (apply_chunk by) cs)
  plain_stays cs h = ap (list_all of_card) (cards_stay cs h) ∙ h

  pub stands : (u : Assignment) (cs : List Chunk) → PlainCards cs → Stands by u (cards_of cs)
  stands u cs h c k =
      let e = spares c (each_at of_card c (cards_of cs) h k) in
      ap (image_value u c) e ∙ sym (ap (λ (o : Option Term). u.number (var_at c o)) e)

Int≢Card : Int ≡ Card → ⊥
Int≢Card e = cc

pub int_spares : (v : Var) (to : Term) → sort_eq v.sort Int ≡ true → SparesCards (bind_int v to)
int_spares v to h c k =
    ap (λ (b : Bool). cond b (Some to) None)
    (false_from_ne_true (var_eq v c) (λ e.
    Int≢Card (sym ((Decides-sort_eq v.sort Int).0 h) ∙ ap (λ (x : Var). x.sort) ((Decides-var_eq v c).0 e) ∙ (Decides-sort_eq c.sort Card).0 k)))

pub set_spares : (v : Var) (u : SetTerm) → SparesCards (bind_set v u)
set_spares v u c k = refl
