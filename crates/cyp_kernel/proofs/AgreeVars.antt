-- Assignments that agree at the variables of a side of a goal, each by its sort, make it hold alike.
use Rattle.std.proofs.Common.{◌≡◌, refl, ap, inl, Bool, true, not, List, [], ◌∷◌, ◌++◌, append-nil, flat_map, ℕ, ◌+ℤ◌, ℤ, Option, Some, None, subst}
use Rattle.std.specs.List.{list_all}
use Rattle.std.proofs.lemmas.Bool.{and_from, and_parts, false≢true}
use Rattle.cyp_goal.proofs.EachVar.{Each, first, second}
use Rattle.cyp_goal.specs.Raw.{arg_fits, chunk_fits, lit_fits, set_fits, term_fits}
use Rattle.cyp_heap.proofs.Agreement.{SameNumbers, SameSets, SameValues, all_agree, cards_of, chunks_agree, side_agrees}
use Rattle.cyp_heap.proofs.SameChunks.{SameChunk}
use Rattle.cyp_heap.specs.Assertions.{SideHolds}
use Rattle.cyp_heap.specs.Chunks.{arg_vars, card_vars, chunk_vars, chunks_vars}
use Rattle.cyp_heap.specs.PredsFormed.{arg_set_vars, arg_terms, chunk_set_vars, chunk_terms, lit_terms}
use Rattle.cyp_heap.specs.Stores.{Store}
use Rattle.cyp_heap.specs.declared.chunk.Arg.{Arg}
use Rattle.cyp_heap.specs.declared.chunk.Arg.TheVariants.{Int as IntArg, Set as SetArg}
use Rattle.cyp_heap.specs.declared.chunk.Chunk.{Chunk}
use Rattle.cyp_heap.specs.declared.chunk.Chunk.TheVariants.{Block, Cell, Inst}
use Rattle.cyp_heap.specs.declared.pred.Preds.{Preds}
use Rattle.cyp_kernel.specs.Correct.{AgreeBy}
use Rattle.cyp_term.proofs.Lists.{Among}
use Rattle.cyp_term.specs.Meaning.{AllTrue, Assignment, SameMembers, base_value, value}
use Rattle.cyp_term.specs.Regions.{lit_set_vars}
use Rattle.cyp_term.specs.Terms.{base_vars, is_set_var, lit_vars, lits_vars, set_vars, sort_eq, term_vars}
use Rattle.cyp_term.specs.declared.lit.Lit.{Lit}
use Rattle.cyp_term.specs.declared.lit.Lit.TheVariants.{Eq, Le, Lt, Member, Ne, NotMember, NotSame, NotSub, Same, Sub}
use Rattle.cyp_term.specs.declared.lit.SetTerm.{SetTerm}
use Rattle.cyp_term.specs.declared.term.Sort.{Sort}
use Rattle.cyp_term.specs.declared.term.Sort.TheVariants.{Card, Int, Set}
use Rattle.cyp_term.specs.declared.term.Term.{Term}
use Rattle.cyp_term.specs.declared.term.Var.{Var}

-- the variable stands for a number
abbrev pub is_number_var : Var → Bool
is_number_var v = not (is_set_var v)

abbrev pub lit_sorted : Lit → Bool
lit_sorted l = lit_fits is_number_var is_set_var l

abbrev pub chunk_sorted : Chunk → Bool
chunk_sorted c = chunk_fits is_number_var is_set_var c

module _ (s t : Assignment) where
  -- the assignments agree at the variable
  abbrev pub AgreeAt : Var → Type 0
  AgreeAt v = AgreeBy v.sort s t v

  pub number_by : (k : Sort) (v : Var) → not (sort_eq k Set) ≡ true → AgreeBy k s t v → s.number v ≡ t.number v
  number_by Int v e a = a
  number_by Card v e a = a
  number_by Set v e a = absurd (false≢true e)

  members_by : (k : Sort) (v : Var) → sort_eq k Set ≡ true → AgreeBy k s t v → SameMembers (s.members v) (t.members v)
  members_by Int v e a = absurd (false≢true e)
  members_by Card v e a = absurd (false≢true e)
  members_by Set v e a = a

  -- ---- terms and set terms

  base_same : (b : Option Var) → list_all is_number_var (base_vars b) ≡ true → Each AgreeAt (base_vars b) → base_value s b ≡ base_value t b
  base_same None f e = refl
  base_same (Some v) f e = number_by v.sort v (and_parts (is_number_var v) true f).0 (e v (inl refl))

  pub value_same : (x : Term) → term_fits is_number_var x ≡ true → Each AgreeAt (term_vars x) → value s x ≡ value t x
  value_same x f e = ap (λ (z : ℤ). z +ℤ x.offset) (base_same x.base f e)

  values_same : (xs : List Term) → list_all (term_fits is_number_var) xs ≡ true → Each AgreeAt (flat_map (λ x. term_vars x) xs) → SameValues s t xs
  values_same [] f e = tt
  values_same (x ∷ xs) f e =
      let both = and_parts (term_fits is_number_var x) (list_all (term_fits is_number_var) xs) f in (
        value_same x both.0 (first AgreeAt (term_vars x) (flat_map (λ y. term_vars y) xs) e),
        values_same xs both.1 (second AgreeAt (term_vars x) (flat_map (λ y. term_vars y) xs) e),
      )

  sets_same : (vs : List Var) → list_all is_set_var vs ≡ true → Each AgreeAt vs → SameSets s t vs
  sets_same [] f e = tt
  sets_same (v ∷ vs) f e =
      let both = and_parts (is_set_var v) (list_all is_set_var vs) f in
      (members_by v.sort v both.0 (first AgreeAt (v ∷ []) vs e v (inl refl)), sets_same vs both.1 (second AgreeAt (v ∷ []) vs e))

  values_join : (xs ys : List Term) → SameValues s t xs → SameValues s t ys → SameValues s t (xs ++ ys)
  values_join [] ys a b = b
  values_join (x ∷ xs) ys a b = (a.0, values_join xs ys a.1 b)

  sets_join : (xs ys : List Var) → SameSets s t xs → SameSets s t ys → SameSets s t (xs ++ ys)
  sets_join [] ys a b = b
  sets_join (x ∷ xs) ys a b = (a.0, sets_join xs ys a.1 b)

  numbers_join : (xs ys : List Var) → SameNumbers s t xs → SameNumbers s t ys → SameNumbers s t (xs ++ ys)
  numbers_join [] ys a b = b
  numbers_join (x ∷ xs) ys a b = (a.0, numbers_join xs ys a.1 b)

  -- the values of these terms and the members of these sets are the same
  abbrev Alike : List Term → List Var → Type 0
  Alike xs vs = SameValues s t xs × SameSets s t vs

  alike_join : (xs ys : List Term) (us vs : List Var) → Alike xs us → Alike ys vs → Alike (xs ++ ys) (us ++ vs)
  alike_join xs ys us vs a b = (values_join xs ys a.0 b.0, sets_join us vs a.1 b.1)

  set_alike : (u : SetTerm) → set_fits is_number_var is_set_var u ≡ true → Each AgreeAt (set_vars u) → Alike u.elems u.vars
  set_alike u f e =
      let both = and_parts (list_all is_set_var u.vars) (list_all (term_fits is_number_var) u.elems) f in
      let elems : List Var = flat_map (λ x. term_vars x) u.elems in
      (values_same u.elems both.1 (second AgreeAt u.vars elems e), sets_same u.vars both.0 (first AgreeAt u.vars elems e))

  -- ---- literals

  two_terms : (a b : Term) → lit_sorted (Eq a b) ≡ true → Each AgreeAt (term_vars a ++ term_vars b) → Alike (a ∷ b ∷ []) []
  two_terms a b f e =
      let both = and_parts (term_fits is_number_var a) (term_fits is_number_var b) f in
      ((value_same a both.0 (first AgreeAt (term_vars a) (term_vars b) e), (value_same b both.1 (second AgreeAt (term_vars a) (term_vars b) e), tt)), tt)

  two_sets : (a b : SetTerm) → lit_sorted (Same a b) ≡ true → Each AgreeAt (set_vars a ++ set_vars b) → Alike (a.elems ++ b.elems) (a.vars ++ b.vars)
  two_sets a b f e =
      let both = and_parts (set_fits is_number_var is_set_var a) (set_fits is_number_var is_set_var b) f in
      alike_join a.elems b.elems a.vars b.vars (set_alike a both.0 (first AgreeAt (set_vars a) (set_vars b) e)) (set_alike b both.1 (second AgreeAt (set_vars a) (set_vars b) e))

  term_and_set : (a : Term) (b : SetTerm) → lit_sorted (Member a b) ≡ true → Each AgreeAt (term_vars a ++ set_vars b) → Alike (a ∷ b.elems) b.vars
  term_and_set a b f e =
      let both = and_parts (term_fits is_number_var a) (set_fits is_number_var is_set_var b) f in
      let set = set_alike b both.1 (second AgreeAt (term_vars a) (set_vars b) e) in
      ((value_same a both.0 (first AgreeAt (term_vars a) (set_vars b) e), set.0), set.1)

  lit_alike : (l : Lit) → lit_sorted l ≡ true → Each AgreeAt (lit_vars l) → Alike (lit_terms l) (lit_set_vars l)
  lit_alike (Eq a b) f e = two_terms a b f e
  lit_alike (Ne a b) f e = two_terms a b f e
  lit_alike (Le a b) f e = two_terms a b f e
  lit_alike (Lt a b) f e = two_terms a b f e
  lit_alike (Same a b) f e = two_sets a b f e
  lit_alike (NotSame a b) f e = two_sets a b f e
  lit_alike (Member a b) f e = term_and_set a b f e
  lit_alike (NotMember a b) f e = term_and_set a b f e
  lit_alike (Sub a b) f e = two_sets a b f e
  lit_alike (NotSub a b) f e = two_sets a b f e

  lits_alike : (ls : List Lit) → list_all lit_sorted ls ≡ true → Each AgreeAt (lits_vars ls) → Alike (flat_map lit_terms ls) (flat_map lit_set_vars ls)
  lits_alike [] f e = (tt, tt)
  lits_alike (l ∷ ls) f e =
      let both = and_parts (lit_sorted l) (list_all lit_sorted ls) f in
      alike_join (lit_terms l) (flat_map lit_terms ls) (lit_set_vars l) (flat_map lit_set_vars ls)
      (lit_alike l both.0 (first AgreeAt (lit_vars l) (lits_vars ls) e)) (lits_alike ls both.1 (second AgreeAt (lit_vars l) (lits_vars ls) e))

  -- ---- chunks

  arg_alike : (a : Arg) → arg_fits is_number_var is_set_var a ≡ true → Each AgreeAt (arg_vars a) → Alike (arg_terms a) (arg_set_vars a)
  arg_alike (IntArg x) f e = ((value_same x f e, tt), tt)
  arg_alike (SetArg u) f e = set_alike u f e

  args_alike : (xs : List Arg) → list_all (arg_fits is_number_var is_set_var) xs ≡ true → Each AgreeAt (flat_map arg_vars xs)
      → Alike (flat_map arg_terms xs) (flat_map arg_set_vars xs)
  args_alike [] f e = (tt, tt)
  args_alike (a ∷ xs) f e =
      let both = and_parts (arg_fits is_number_var is_set_var a) (list_all (arg_fits is_number_var is_set_var) xs) f in
      alike_join (arg_terms a) (flat_map arg_terms xs) (arg_set_vars a) (flat_map arg_set_vars xs)
      (arg_alike a both.0 (first AgreeAt (arg_vars a) (flat_map arg_vars xs) e)) (args_alike xs both.1 (second AgreeAt (arg_vars a) (flat_map arg_vars xs) e))

  card_same : (o : Option Var) → list_all is_number_var (card_vars o) ≡ true → Each AgreeAt (card_vars o) → SameNumbers s t (card_vars o)
  card_same None f e = tt
  card_same (Some v) f e = (number_by v.sort v (and_parts (is_number_var v) true f).0 (e v (inl refl)), tt)

  -- what the chunk says of a heap
  pub record AlikeChunks (cs : List Chunk) : Type 0 where
    pub terms : SameValues s t (flat_map chunk_terms cs)
    pub sets : SameSets s t (flat_map chunk_set_vars cs)
    pub cards : SameNumbers s t (cards_of cs)

  pub chunks_alike : (cs : List Chunk) → list_all chunk_sorted cs ≡ true → Each AgreeAt (chunks_vars cs) → AlikeChunks cs
  chunks_alike [] f e = record { terms = tt; sets = tt; cards = tt }
  chunks_alike (Inst i ∷ cs) f e =
      let both = and_parts (chunk_sorted (Inst i)) (list_all chunk_sorted cs) f in
      let parts = and_parts (list_all (arg_fits is_number_var is_set_var) i.args) (list_all is_number_var (card_vars i.card)) both.0 in
      let here : Each AgreeAt (chunk_vars (Inst i)) = first AgreeAt (chunk_vars (Inst i)) (chunks_vars cs) e in
      let args = args_alike i.args parts.0 (first AgreeAt (flat_map arg_vars i.args) (card_vars i.card) here) in
      let later = chunks_alike cs both.1 (second AgreeAt (chunk_vars (Inst i)) (chunks_vars cs) e) in
      record {
        terms = values_join (flat_map arg_terms i.args) (flat_map chunk_terms cs) args.0 later.terms;
        sets = sets_join (flat_map arg_set_vars i.args) (flat_map chunk_set_vars cs) args.1 later.sets;
        cards = numbers_join (card_vars i.card) (cards_of cs) (card_same i.card parts.1 (second AgreeAt (flat_map arg_vars i.args) (card_vars i.card) here)) later.cards;
      }
  chunks_alike (Block b ∷ cs) f e =
      let both = and_parts (chunk_sorted (Block b)) (list_all chunk_sorted cs) f in
      let later = chunks_alike cs both.1 (second AgreeAt (chunk_vars (Block b)) (chunks_vars cs) e) in
      record { terms = (value_same b.at both.0 (first AgreeAt (chunk_vars (Block b)) (chunks_vars cs) e), later.terms); sets = later.sets; cards = later.cards }
  chunks_alike (Cell c ∷ cs) f e =
      let both = and_parts (chunk_sorted (Cell c)) (list_all chunk_sorted cs) f in
      let here = two_terms c.at c.content both.0 (first AgreeAt (chunk_vars (Cell c)) (chunks_vars cs) e) in
      let later = chunks_alike cs both.1 (second AgreeAt (chunk_vars (Cell c)) (chunks_vars cs) e) in
      record { terms = (here.0.0, (here.0.1.0, later.terms)); sets = later.sets; cards = later.cards }

  -- ---- a side of a goal

  pub lits_by_vars : (ls : List Lit) → list_all lit_sorted ls ≡ true → Each AgreeAt (lits_vars ls) → AllTrue s ls → AllTrue t ls
  lits_by_vars ls f e k = let a = lits_alike ls f e in all_agree s t ls a.0 a.1 k

  pub side_by_vars : (preds : Preds) (ls : List Lit) (cs : List Chunk) (h : Store) (ns : List ℕ) → list_all lit_sorted ls ≡ true → list_all chunk_sorted cs ≡ true
      → Each AgreeAt (lits_vars ls) → Each AgreeAt (chunks_vars cs) → SideHolds preds s ls cs h ns → SideHolds preds t ls cs h ns
  side_by_vars preds ls cs h ns f g d e k =
      let lits = lits_alike ls f d in
      let chunks = chunks_alike cs g e in
      side_agrees preds s t ls cs h ns (record { lit_values = lits.0; lit_sets = lits.1; chunk_values = chunks.terms; chunk_sets = chunks.sets; cards = chunks.cards }) k

-- a chunk means the same where the assignments agree at its variables
pub same_by_vars : (s u : Assignment) (c : Chunk) → chunk_sorted c ≡ true → Each (AgreeAt s u) (chunk_vars c) → SameChunk s u c c
same_by_vars s u c f e =
    let a = chunks_alike s u (c ∷ []) (and_from (chunk_sorted c) true f refl) (λ v k. e v (in_one v k)) in (chunks_agree s u (c ∷ []) a.terms a.sets).0
  where
    in_one : (v : Var) → Among v (chunk_vars c ++ []) → Among v (chunk_vars c)
    in_one v k = subst (Among v) (append-nil (chunk_vars c)) k
