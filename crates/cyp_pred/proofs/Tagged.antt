-- Instances that get tags and cardinalities, one by one.
use Rattle.std.proofs.Common.{◌≡◌, ◌∙◌, refl, ap, sym, arith, append_assoc, ℕ, suc, ◌+◌, ◌-◌, ◌<◌, ◌≤◌, false, ◌&&◌, ◌||◌, List, [], ◌∷◌, ◌++◌, Option, None, Some, length}
use Rattle.std.specs.List.{list_all, list_any}
use Rattle.std.specs.Prelude.{IsTrue}
use Rattle.cyp_heap.specs.Chunks.{in_order, insts, wide_chunk}
use Rattle.cyp_heap.specs.declared.chunk.Chunk.{Chunk}
use Rattle.cyp_heap.specs.declared.chunk.Chunk.TheVariants.{Block, Cell, Inst}
use Rattle.cyp_heap.proofs.Order.{behind}
use Rattle.cyp_pred.specs.Parts.{first_number, with_tag}
use Rattle.cyp_pred.specs.Unfold.{below_card, card_var, count_from, with_tags}
use Rattle.cyp_term.specs.Terms.{var_term, wide_lit}
use Rattle.cyp_term.specs.declared.lit.Lit.{Lit}
use Rattle.cyp_term.specs.declared.lit.Lit.TheVariants.{Lt}
use Rattle.cyp_term.specs.declared.term.Var.{Var}

-- ---- how many

pub insts_head : (c : Chunk) (cs : List Chunk) → length (insts (c ∷ cs)) ≡ length (insts (c ∷ [])) + length (insts cs)
insts_head (Inst i) cs = omega arith
insts_head (Block b) cs = omega arith
insts_head (Cell b) cs = omega arith

pub few_insts : (cs : List Chunk) → length (insts cs) ≤ length cs
few_insts [] = omega arith
few_insts (Inst i ∷ cs) = omega (arith, few_insts cs)
few_insts (Block b ∷ cs) = omega (arith, few_insts cs)
few_insts (Cell b ∷ cs) = omega (arith, few_insts cs)

-- ---- a turn

with_tags_head : (card : Option Var) (tag n : ℕ) (c : Chunk) (cs : List Chunk)
    → with_tags card tag n (c ∷ cs) ≡ with_tag card tag n c ∷ with_tags card tag (n + length (insts (c ∷ []))) cs
with_tags_head card tag n (Inst i) cs = let e : n + 1 ≡ suc n = omega arith in rw e refl
with_tags_head card tag n (Block b) cs = let e : n + 0 ≡ n = omega arith in rw e refl
with_tags_head card tag n (Cell b) cs = let e : n + 0 ≡ n = omega arith in rw e refl

-- one chunk is tagged, and those behind it are left
pub tags_turn : (card : Option Var) (tag n m : ℕ) (made new whole items : List Chunk) (c : Chunk) (rest : List Chunk) → items ≡ c ∷ rest
    → new ≡ made ++ with_tag card tag n c ∷ [] → m ≡ n + length (insts (c ∷ []))
    → made ++ with_tags card tag n items ≡ whole → new ++ with_tags card tag m rest ≡ whole
tags_turn card tag n m made new whole items c rest here is next h =
    let k : ℕ = n + length (insts (c ∷ [])) in
    ap (λ j. new ++ with_tags card tag j rest) next
    ∙ ap (λ (xs : List Chunk). xs ++ with_tags card tag k rest) is
    ∙ append_assoc made (with_tag card tag n c ∷ []) (with_tags card tag k rest)
    ∙ sym (ap (λ (xs : List Chunk). made ++ xs) (with_tags_head card tag n c rest))
    ∙ sym (ap (λ (vs : List Chunk). made ++ with_tags card tag n vs) here) ∙ h

-- each of this many new cardinalities is below the other one
abbrev pub new_below : Var → ℕ → ℕ → ℕ → List Lit
new_below v a f n = below_card (Some v) (count_from f n)

pub below_turn : (v : Var) (made new whole : List Lit) (f k n : ℕ) → k < n → new ≡ made ++ Lt (var_term (card_var (f + k))) (var_term v) ∷ []
    → made ++ new_below v 0 (f + k) (n - k) ≡ whole → new ++ new_below v 0 (f + (k + 1)) (n - (k + 1)) ≡ whole
below_turn v made new whole f k n lt is h =
    let rest : List Lit = new_below v 0 (suc (f + k)) (n - (k + 1)) in
    let one : n - k ≡ suc (n - (k + 1)) = omega arith in
    let next_f : f + (k + 1) ≡ suc (f + k) = omega arith in
    ap (λ x. new ++ new_below v 0 x (n - (k + 1))) next_f
    ∙ ap (λ (xs : List Lit). xs ++ rest) is
    ∙ append_assoc made (Lt (var_term (card_var (f + k))) (var_term v) ∷ []) rest
    ∙ sym (ap (λ x. made ++ new_below v 0 (f + k) x) one) ∙ h

-- ---- what tags leave as it was

-- without a cardinality the numbers don't matter
with_tags_none : (tag n m : ℕ) (cs : List Chunk) → with_tags None tag n cs ≡ with_tags None tag m cs
with_tags_none tag n m [] = refl
with_tags_none tag n m (Inst i ∷ cs) = ap (λ ds. Inst (record { pred = i.pred; args = i.args; card = None; tag = tag }) ∷ ds) (with_tags_none tag (suc n) (suc m) cs)
with_tags_none tag n m (Block b ∷ cs) = ap (λ ds. Block b ∷ ds) (with_tags_none tag n m cs)
with_tags_none tag n m (Cell b ∷ cs) = ap (λ ds. Cell b ∷ ds) (with_tags_none tag n m cs)

pub with_tags_first : (card : Option Var) (tag n : ℕ) (cs : List Chunk) → with_tags card tag (first_number card n) cs ≡ with_tags card tag n cs
with_tags_first None tag n cs = with_tags_none tag 0 n cs
with_tags_first (Some v) tag n cs = refl

-- what the code makes, from the first number on, is what the definition makes
pub tagged_is : (card : Option Var) (tag t n m : ℕ) (cs ds es : List Chunk) → t ≡ suc tag → m ≡ first_number card n → ds ≡ with_tags card t m cs → cs ≡ es
    → ds ≡ with_tags card (suc tag) n es
tagged_is card tag t n m cs ds es next first made same =
    made
    ∙ ap (λ k. with_tags card k m cs) next
    ∙ ap (λ k. with_tags card (suc tag) k cs) first
    ∙ ap (λ xs. with_tags card (suc tag) (first_number card n) xs) same
    ∙ with_tags_first card (suc tag) n es

-- tags widen nothing
pub wide_with_tags : (card : Option Var) (tag n : ℕ) (cs : List Chunk) → list_any wide_chunk (with_tags card tag n cs) ≡ list_any wide_chunk cs
wide_with_tags card tag n [] = refl
wide_with_tags card tag n (Inst i ∷ cs) = ap (λ b. wide_chunk (Inst i) || b) (wide_with_tags card tag (suc n) cs)
wide_with_tags card tag n (Block k ∷ cs) = ap (λ b. wide_chunk (Block k) || b) (wide_with_tags card tag n cs)
wide_with_tags card tag n (Cell k ∷ cs) = ap (λ b. wide_chunk (Cell k) || b) (wide_with_tags card tag n cs)

-- comparisons of cardinalities are narrow
pub wide_below : (card : Option Var) (ns : List ℕ) → list_any wide_lit (below_card card ns) ≡ false
wide_below None ns = refl
wide_below (Some v) [] = refl
wide_below (Some v) (n ∷ ns) = wide_below (Some v) ns

-- kinds stay
module _ (card : Option Var) (tag : ℕ) where
  all_behind_tags : (r n : ℕ) (cs : List Chunk) → list_all (behind r) (with_tags card tag n cs) ≡ list_all (behind r) cs
  all_behind_tags r n [] = refl
  all_behind_tags r n (Inst i ∷ cs) = ap (λ b. behind r (Inst i) && b) (all_behind_tags r (suc n) cs)
  all_behind_tags r n (Block k ∷ cs) = ap (λ b. behind r (Block k) && b) (all_behind_tags r n cs)
  all_behind_tags r n (Cell k ∷ cs) = ap (λ b. behind r (Cell k) && b) (all_behind_tags r n cs)

  order_with_tags : (n : ℕ) (cs : List Chunk) → in_order (with_tags card tag n cs) ≡ in_order cs
  order_with_tags n [] = refl
  order_with_tags n (Inst i ∷ cs) = rw (all_behind_tags 0 (suc n) cs, order_with_tags (suc n) cs) refl
  order_with_tags n (Block k ∷ cs) = rw (all_behind_tags 1 n cs, order_with_tags n cs) refl
  order_with_tags n (Cell k ∷ cs) = rw (all_behind_tags 2 n cs, order_with_tags n cs) refl

  pub tags_in_order : (n : ℕ) (cs ds : List Chunk) → ds ≡ with_tags card tag n cs → IsTrue (in_order cs) → IsTrue (in_order ds)
  tags_in_order n cs ds e h = ap in_order e ∙ order_with_tags n cs ∙ h
