-- What a side of a goal means depends on the values of what stands there alone.
use Rattle.std.proofs.Common.{◌≡◌, refl, sym, ◌∙◌, ℕ, ◌||◌, List, [], ◌∷◌, ◌++◌, map, flat_map, ℤ, ◌≤ℤ◌, ◌<ℤ◌, Option, Some, None, true, subst, IsTrue}
use Rattle.std.specs.Ordering.{int_eq}
use Rattle.std.proofs.lemmas.List.Folds.{list_any-append}
use Rattle.cyp_heap.specs.Assertions.{CardIs, CardsAre, SideHolds}
use Rattle.cyp_heap.specs.Chunks.{card_vars, insts}
use Rattle.cyp_heap.specs.Instances.{arg_value}
use Rattle.cyp_heap.specs.Laws.{SameArgValue, SameArgValues}
use Rattle.cyp_heap.specs.PredsFormed.{arg_set_vars, arg_terms, chunk_set_vars, chunk_terms, lit_terms}
use Rattle.cyp_heap.specs.Stores.{Store}
use Rattle.cyp_heap.specs.declared.chunk.Arg.{Arg}
use Rattle.cyp_heap.specs.declared.chunk.Arg.TheVariants.{Int as IntArg, Set as SetArg}
use Rattle.cyp_heap.specs.declared.chunk.Chunk.{Chunk}
use Rattle.cyp_heap.specs.declared.chunk.Chunk.TheVariants.{Block, Cell, Inst}
use Rattle.cyp_heap.specs.declared.chunk.InstOf.{InstOf}
use Rattle.cyp_heap.specs.declared.pred.Preds.{Preds}
use Rattle.cyp_term.specs.Meaning.{AllTrue, Assignment, IsSubset, SameMembers, Truth, int_in, set_value, value}
use Rattle.cyp_term.specs.Regions.{lit_set_vars}
use Rattle.cyp_term.specs.declared.lit.Lit.{Lit}
use Rattle.cyp_term.specs.declared.lit.Lit.TheVariants.{Eq, Le, Lt, Member, Ne, NotMember, NotSame, NotSub, Same, Sub}
use Rattle.cyp_term.specs.declared.lit.SetTerm.{SetTerm}
use Rattle.cyp_term.specs.declared.term.Term.{Term}
use Rattle.cyp_term.specs.declared.term.Var.{Var}
use Rattle.cyp_heap.proofs.SameChunks.{SameChunk, SameChunks, side_chunks_same}

-- ---- what is the same in two assignments

-- each of the terms has the same value
abbrev pub SameValues : Assignment → Assignment → List Term → Type 0
SameValues s t [] = Unit {0}
SameValues s t (x ∷ xs) = (value s x ≡ value t x) × SameValues s t xs

-- each of the variables has the same members
abbrev pub SameSets : Assignment → Assignment → List Var → Type 0
SameSets s t [] = Unit {0}
SameSets s t (v ∷ vs) = SameMembers (s.members v) (t.members v) × SameSets s t vs

-- each of the variables is the same number
abbrev pub SameNumbers : Assignment → Assignment → List Var → Type 0
SameNumbers s t [] = Unit {0}
SameNumbers s t (v ∷ vs) = (s.number v ≡ t.number v) × SameNumbers s t vs

-- the cardinalities of the instances
abbrev pub cards_of : List Chunk → List Var
cards_of cs = flat_map (λ (i : InstOf). card_vars i.card) (insts cs)

-- the two assignments agree on what stands in the literals and the chunks
pub record AgreeOn (s t : Assignment) (ls : List Lit) (cs : List Chunk) : Type 0 where
  pub lit_values : SameValues s t (flat_map lit_terms ls)
  pub lit_sets : SameSets s t (flat_map lit_set_vars ls)
  pub chunk_values : SameValues s t (flat_map chunk_terms cs)
  pub chunk_sets : SameSets s t (flat_map chunk_set_vars cs)
  pub cards : SameNumbers s t (cards_of cs)

-- ---- the same members

pub same_sym : (xs ys : List ℤ) → SameMembers xs ys → SameMembers ys xs
same_sym xs ys h z = sym (h z)

pub same_append : (xs xs' ys ys' : List ℤ) → SameMembers xs xs' → SameMembers ys ys' → SameMembers (xs ++ ys) (xs' ++ ys')
same_append xs xs' ys ys' p q z = list_any-append (int_eq z) xs ys ∙ (λ i. p z i || q z i) ∙ sym (list_any-append (int_eq z) xs' ys')

same_in : (a c : ℤ) (xs ys : List ℤ) → a ≡ c → SameMembers xs ys → IsTrue (int_in a xs) → IsTrue (int_in c ys)
same_in a c xs ys p q h = subst (λ (x : ℤ). int_in x ys ≡ true) p (sym (q a) ∙ h)

same_same : (xs ys us ws : List ℤ) → SameMembers xs us → SameMembers ys ws → SameMembers xs ys → SameMembers us ws
same_same xs ys us ws p q h z = sym (p z) ∙ h z ∙ q z

same_subset : (xs ys us ws : List ℤ) → SameMembers xs us → SameMembers ys ws → IsSubset xs ys → IsSubset us ws
same_subset xs ys us ws p q h z k = sym (q z) ∙ h z (p z ∙ k)

same_numbers : (R : ℤ → ℤ → Type 0) (a b c d : ℤ) → a ≡ c → b ≡ d → R a b → R c d
same_numbers R a b c d p q h = subst (λ (y : ℤ). R c y) q (subst (λ (x : ℤ). R x b) p h)

module _ (s t : Assignment) where
  -- ---- parts of what is the same

  values_left : (xs ys : List Term) → SameValues s t (xs ++ ys) → SameValues s t xs
  values_left [] ys h = tt
  values_left (x ∷ xs) ys h = (h.0, values_left xs ys h.1)

  values_right : (xs ys : List Term) → SameValues s t (xs ++ ys) → SameValues s t ys
  values_right [] ys h = h
  values_right (x ∷ xs) ys h = values_right xs ys h.1

  sets_left : (xs ys : List Var) → SameSets s t (xs ++ ys) → SameSets s t xs
  sets_left [] ys h = tt
  sets_left (x ∷ xs) ys h = (h.0, sets_left xs ys h.1)

  sets_right : (xs ys : List Var) → SameSets s t (xs ++ ys) → SameSets s t ys
  sets_right [] ys h = h
  sets_right (x ∷ xs) ys h = sets_right xs ys h.1

  numbers_right : (xs ys : List Var) → SameNumbers s t (xs ++ ys) → SameNumbers s t ys
  numbers_right [] ys h = h
  numbers_right (x ∷ xs) ys h = numbers_right xs ys h.1

  -- ---- set terms

  elements_agree : (xs : List Term) → SameValues s t xs → SameMembers (map (value s) xs) (map (value t) xs)
  elements_agree [] h z = refl
  elements_agree (x ∷ xs) h z = λ i. int_eq z (h.0 i) || elements_agree xs h.1 z i

  members_agree : (vs : List Var) → SameSets s t vs → SameMembers (flat_map s.members vs) (flat_map t.members vs)
  members_agree [] h = λ z. refl
  members_agree (v ∷ vs) h = same_append (s.members v) (t.members v) (flat_map s.members vs) (flat_map t.members vs) h.0 (members_agree vs h.1)

  set_agree : (u : SetTerm) → SameValues s t u.elems → SameSets s t u.vars → SameMembers (set_value s u) (set_value t u)
  set_agree u g h =
      same_append (flat_map s.members u.vars) (flat_map t.members u.vars) (map (value s) u.elems) (map (value t) u.elems) (members_agree u.vars h) (elements_agree u.elems g)

  -- the two sets of a literal
  sets_agree : (a b : SetTerm) → SameValues s t (a.elems ++ b.elems) → SameSets s t (a.vars ++ b.vars)
      → SameMembers (set_value s a) (set_value t a) × SameMembers (set_value s b) (set_value t b)
  sets_agree a b g h =
      (set_agree a (values_left a.elems b.elems g) (sets_left a.vars b.vars h), set_agree b (values_right a.elems b.elems g) (sets_right a.vars b.vars h))

  -- ---- literals

  truth_agree : (l : Lit) → SameValues s t (lit_terms l) → SameSets s t (lit_set_vars l) → Truth s l → Truth t l
  truth_agree (Eq a b) g h k = sym g.0 ∙ k ∙ g.1.0
  truth_agree (Ne a b) g h k = λ e. k (g.0 ∙ e ∙ sym g.1.0)
  truth_agree (Le a b) g h k = same_numbers (λ (x y : ℤ). x ≤ℤ y) (value s a) (value s b) (value t a) (value t b) g.0 g.1.0 k
  truth_agree (Lt a b) g h k = same_numbers (λ (x y : ℤ). x <ℤ y) (value s a) (value s b) (value t a) (value t b) g.0 g.1.0 k
  truth_agree (Same a b) g h k =
      let e = sets_agree a b g h in same_same (set_value s a) (set_value s b) (set_value t a) (set_value t b) e.0 e.1 k
  truth_agree (NotSame a b) g h k =
      let e = sets_agree a b g h in
      λ m. k (same_same (set_value t a) (set_value t b) (set_value s a) (set_value s b) (same_sym (set_value s a) (set_value t a) e.0) (same_sym (set_value s b) (set_value t b) e.1) m)
  truth_agree (Member a b) g h k = same_in (value s a) (value t a) (set_value s b) (set_value t b) g.0 (set_agree b g.1 h) k
  truth_agree (NotMember a b) g h k =
      λ m. k (same_in (value t a) (value s a) (set_value t b) (set_value s b) (sym g.0) (same_sym (set_value s b) (set_value t b) (set_agree b g.1 h)) m)
  truth_agree (Sub a b) g h k =
      let e = sets_agree a b g h in same_subset (set_value s a) (set_value s b) (set_value t a) (set_value t b) e.0 e.1 k
  truth_agree (NotSub a b) g h k =
      let e = sets_agree a b g h in
      λ m. k (same_subset (set_value t a) (set_value t b) (set_value s a) (set_value s b) (same_sym (set_value s a) (set_value t a) e.0) (same_sym (set_value s b) (set_value t b) e.1) m)

  pub all_agree : (ls : List Lit) → SameValues s t (flat_map lit_terms ls) → SameSets s t (flat_map lit_set_vars ls) → AllTrue s ls → AllTrue t ls
  all_agree [] g h k = tt
  all_agree (l ∷ ls) g h k = (
    truth_agree l (values_left (lit_terms l) (flat_map lit_terms ls) g) (sets_left (lit_set_vars l) (flat_map lit_set_vars ls) h) k.0,
    all_agree ls (values_right (lit_terms l) (flat_map lit_terms ls) g) (sets_right (lit_set_vars l) (flat_map lit_set_vars ls) h) k.1,
  )

  -- ---- chunks

  arg_agree : (a : Arg) → SameValues s t (arg_terms a) → SameSets s t (arg_set_vars a) → SameArgValue (arg_value s a) (arg_value t a)
  arg_agree (IntArg x) g h = g.0
  arg_agree (SetArg u) g h = set_agree u g h

  args_agree : (xs : List Arg) → SameValues s t (flat_map arg_terms xs) → SameSets s t (flat_map arg_set_vars xs) → SameArgValues (map (arg_value s) xs) (map (arg_value t) xs)
  args_agree [] g h = tt
  args_agree (a ∷ xs) g h = (
    arg_agree a (values_left (arg_terms a) (flat_map arg_terms xs) g) (sets_left (arg_set_vars a) (flat_map arg_set_vars xs) h),
    args_agree xs (values_right (arg_terms a) (flat_map arg_terms xs) g) (sets_right (arg_set_vars a) (flat_map arg_set_vars xs) h),
  )

  chunk_agree : (c : Chunk) → SameValues s t (chunk_terms c) → SameSets s t (chunk_set_vars c) → SameChunk s t c c
  chunk_agree (Inst i) g h = (refl, args_agree i.args g h)
  chunk_agree (Block b) g h = (g.0, refl)
  chunk_agree (Cell c) g h = (g.0, g.1.0)

  pub chunks_agree : (cs : List Chunk) → SameValues s t (flat_map chunk_terms cs) → SameSets s t (flat_map chunk_set_vars cs) → SameChunks s t cs cs
  chunks_agree [] g h = tt
  chunks_agree (c ∷ cs) g h = (
    chunk_agree c (values_left (chunk_terms c) (flat_map chunk_terms cs) g) (sets_left (chunk_set_vars c) (flat_map chunk_set_vars cs) h),
    chunks_agree cs (values_right (chunk_terms c) (flat_map chunk_terms cs) g) (sets_right (chunk_set_vars c) (flat_map chunk_set_vars cs) h),
  )

  -- ---- cardinalities

  card_agrees : (o : Option Var) (n : ℕ) (more : List Var) → SameNumbers s t (card_vars o ++ more) → CardIs s o n → CardIs t o n
  card_agrees None n more g k = tt
  card_agrees (Some c) n more g k = sym g.0 ∙ k

  pub cards_agree : (cs : List Chunk) (ns : List ℕ) → SameNumbers s t (cards_of cs) → CardsAre s cs ns → CardsAre t cs ns
  cards_agree [] ns g k = tt
  cards_agree (Inst i ∷ cs) [] g k = absurd k
  cards_agree (Inst i ∷ cs) (n ∷ ns) g k = (card_agrees i.card n (cards_of cs) g k.0, cards_agree cs ns (numbers_right (card_vars i.card) (cards_of cs) g) k.1)
  cards_agree (Block b ∷ cs) ns g k = cards_agree cs ns g k
  cards_agree (Cell c ∷ cs) ns g k = cards_agree cs ns g k

-- a side of a goal that holds in an assignment holds in each that agrees on what stands there
pub side_agrees : (preds : Preds) (s t : Assignment) (ls : List Lit) (cs : List Chunk) (h : Store) (ns : List ℕ) → AgreeOn s t ls cs
    → SideHolds preds s ls cs h ns → SideHolds preds t ls cs h ns
side_agrees preds s t ls cs h ns a k = (
  all_agree s t ls a.lit_values a.lit_sets k.0,
  side_chunks_same preds s t cs cs h ns (chunks_agree s t cs a.chunk_values a.chunk_sets) k.1,
  cards_agree s t cs ns a.cards k.2,
)
