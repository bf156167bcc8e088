-- One turn of each loop of a call: new variables, new cardinalities, tags, and chunks that stay.
use Rattle.std.proofs.Common.{◌≡◌, ◌∙◌, ◌==◌, ◌+◌, ◌<◌, ◌≤◌, ◌++◌, ℕ, suc, Bool, true, false, cond, List, [], ◌∷◌, None, Option, Some, add-one, ap, append_assoc, arith, drop, get_or, length, max, refl, slice_get, subst, sym}
use Rattle.std.specs.List.{list_any}
use Rattle.std.specs.Prelude.{min}
use Rattle.std.proofs.lemmas.List.{get_or_default}
use Rattle.cyp_goal.proofs.Loops.{rest_step}
use Rattle.cyp_heap.specs.Chunks.{insts}
use Rattle.cyp_heap.specs.declared.chunk.Chunk.{Chunk}
use Rattle.cyp_heap.specs.declared.chunk.Chunk.TheVariants.{Block, Cell, Inst}
use Rattle.cyp_heap.specs.declared.chunk.InstOf.{InstOf}
use Rattle.cyp_pred.specs.declared.unfolded.Next.{Next}
use Rattle.cyp_step.specs.Called.{card_behind, kept_unless, next_behind, with_card, with_new_var}
use Rattle.cyp_step.specs.Calling.{chunk_or_none, chunks_at, chunks_beside, greatest_tag, next_tag, with_exist, with_new_cards}
use Rattle.cyp_term.specs.Terms.{is_set_var, set_var, var_term}
use Rattle.cyp_term.specs.declared.subst.Subst.{Subst}
use Rattle.cyp_term.specs.declared.term.Sort.TheVariants.{Int, Set}
use Rattle.cyp_term.specs.declared.term.Var.{Var}

-- ---- new variables

module _ (n : Next) (v : Var) (vs : List Var) (by : Subst) where
  by_sort : (t : Bool) → elim t [
    | false ↦ with_exist (record n { ints = suc n.ints }) vs (record by { ints = by.ints ++ record { var = v; to = var_term (record { sort = Int; number = n.ints }) } ∷ [] })
    | true ↦ with_exist (record n { sets = suc n.sets }) vs (record by { sets = by.sets ++ record { var = v; to = set_var (record { sort = Set; number = n.sets }) } ∷ [] })
  ] ≡ with_exist (elim t [ false ↦ record n { ints = suc n.ints } | true ↦ record n { sets = suc n.sets } ]) vs (elim t [
    | false ↦ record by { ints = by.ints ++ record { var = v; to = var_term (record { sort = Int; number = n.ints }) } ∷ [] }
    | true ↦ record by { sets = by.sets ++ record { var = v; to = set_var (record { sort = Set; number = n.sets }) } ∷ [] }
  ])
  by_sort true = refl
  by_sort false = refl

  exist_first : with_exist n (v ∷ vs) by ≡ with_exist (next_behind n v) vs (with_new_var n v by)
  exist_first = by_sort (is_set_var v)

pub exist_turn : (vs : List Var) (i : ℕ) (u : Var) (n m : Next) (b d r : Subst) → with_exist n (drop i vs) b ≡ r → i < length vs
    → m ≡ next_behind n (get_or vs i u) → d ≡ with_new_var n (get_or vs i u) b → with_exist m (drop (i + 1) vs) d ≡ r
exist_turn vs i u n m b d r h lt e f =
    let v : Var = get_or vs i u in
    rest_step (λ (s : Next × Subst) ws. with_exist s.0 ws s.1) vs i r (n, b) (m, d) v h lt (get_or_default vs i u v lt) (λ ws. exist_first n v ws b ∙ sym (λ j. with_exist (e j) ws (f j)))

-- ---- new cardinalities

cards_first : (tag k : ℕ) (c : Chunk) (cs : List Chunk) → with_new_cards tag k (c ∷ cs) ≡ with_card tag k c ∷ with_new_cards tag (card_behind k c) cs
cards_first tag k (Inst i) cs = refl
cards_first tag k (Block b) cs = refl
cards_first tag k (Cell d) cs = refl

pub cards_turn : (tag k m : ℕ) (c d : Chunk) (rest left made new all : List Chunk) → left ≡ c ∷ rest → made ++ with_new_cards tag k left ≡ all
    → d ≡ with_card tag k c → m ≡ card_behind k c → new ≡ made ++ d ∷ [] → new ++ with_new_cards tag m rest ≡ all
cards_turn tag k m c d rest left made new all e h is after put =
    ap (λ xs. xs ++ with_new_cards tag m rest) put
    ∙ append_assoc made (d ∷ []) (with_new_cards tag m rest)
    ∙ (λ j. made ++ is j ∷ with_new_cards tag (after j) rest)
    ∙ ap (λ xs. made ++ xs) (sym (cards_first tag k c rest))
    ∙ sym (ap (λ ls. made ++ with_new_cards tag k ls) e)
    ∙ h

pub low_turn : (k m : ℕ) (c : Chunk) (rest left : List Chunk) → left ≡ c ∷ rest → k + length left ≤ 48 → m ≤ k + 1 → m + length rest ≤ 48
low_turn k m c rest left e h le = let fewer : k + length (c ∷ rest) ≤ 48 = subst (λ cs. k + length cs ≤ 48) e h in omega arith

-- ---- tags

greatest : (a b : ℕ) (js : List InstOf) → greatest_tag (max a b) js ≡ max a (greatest_tag b js)
greatest a b [] = refl
greatest a b (j ∷ js) =
    let e : max (max a b) j.tag ≡ max a (max b j.tag) = omega arith in
    ap (λ n. greatest_tag n js) e ∙ greatest a (max b j.tag) js

capped : (a b : ℕ) → min 4 (suc (max a b)) ≡ max (min 4 (suc a)) (min 4 (suc b))
capped a b = omega arith

one_tag : (i : InstOf) (is : List InstOf) → next_tag (i ∷ is) ≡ max (min 4 (suc i.tag)) (next_tag is)
one_tag i [] = omega arith
one_tag i (j ∷ js) = ap (λ n. min 4 (suc n)) (greatest i.tag j.tag js) ∙ capped i.tag (greatest_tag j.tag js)

max_first : (a b c : ℕ) → max a (max b c) ≡ max (max a b) c
max_first a b c = omega arith

max_none : (a b : ℕ) → max a b ≡ max (max a 0) b
max_none a b = omega arith

tag_first : (old : ℕ) (o : Option Chunk) (ds : List Chunk) → max old (next_tag (insts (chunk_or_none o ++ ds))) ≡ max (max old (next_tag (insts (chunk_or_none o)))) (next_tag (insts ds))
tag_first old None ds = max_none old (next_tag (insts ds))
tag_first old (Some (Inst i)) ds = ap (max old) (one_tag i (insts ds)) ∙ max_first old (min 4 (suc i.tag)) (next_tag (insts ds))
tag_first old (Some (Block b)) ds = max_none old (next_tag (insts ds))
tag_first old (Some (Cell c)) ds = max_none old (next_tag (insts ds))

pub tag_turn : (cs : List Chunk) (ks : List ℕ) (i d old new r : ℕ) → max old (next_tag (insts (chunks_at cs (drop i ks)))) ≡ r → i < length ks
    → new ≡ max old (next_tag (insts (chunk_or_none (slice_get cs (get_or ks i d))))) → max new (next_tag (insts (chunks_at cs (drop (i + 1) ks)))) ≡ r
tag_turn cs ks i d old new r h lt e =
    let k : ℕ = get_or ks i d in
    rest_step (λ (n : ℕ) ws. max n (next_tag (insts (chunks_at cs ws)))) ks i r old new k h lt (get_or_default ks i d k lt)
    (λ ws. tag_first old (slice_get cs k) (chunks_at cs ws) ∙ ap (λ n. max n (next_tag (insts (chunks_at cs ws)))) (sym e))

-- ---- chunks that stay

module _ (ks : List ℕ) (i : ℕ) (c : Chunk) (kept : List Chunk) where
  beside_test : (ys : List Chunk) (b : Bool) → kept ++ cond b ys (c ∷ ys) ≡ kept_unless b kept c ++ ys
  beside_test ys true = refl
  beside_test ys false = sym (append_assoc kept (c ∷ []) ys)

  beside_first : (ys : List Chunk) (b : Bool) → list_any (λ j. j == i) ks ≡ b → kept ++ chunks_beside i ks (c ∷ ys) ≡ kept_unless b kept c ++ chunks_beside (i + 1) ks ys
  beside_first ys b e =
      ap (λ t. kept ++ cond t (chunks_beside (suc i) ks ys) (c ∷ chunks_beside (suc i) ks ys)) e
      ∙ beside_test (chunks_beside (suc i) ks ys) b
      ∙ ap (λ k. kept_unless b kept c ++ chunks_beside k ks ys) (sym (add-one i))

  pub beside_turn : (cs new r : List Chunk) (b : Bool) → kept ++ chunks_beside i ks (drop i cs) ≡ r → i < length cs → c ≡ get_or cs i c
      → list_any (λ j. j == i) ks ≡ b → new ≡ kept_unless b kept c → new ++ chunks_beside (i + 1) ks (drop (i + 1) cs) ≡ r
  beside_turn cs new r b h lt is e put =
      rest_step (λ (s : List Chunk × ℕ) ys. s.0 ++ chunks_beside s.1 ks ys) cs i r (kept, i) (new, i + 1) c h lt is
      (λ ys. beside_first ys b e ∙ ap (λ ds. ds ++ chunks_beside (i + 1) ks ys) (sym put))
