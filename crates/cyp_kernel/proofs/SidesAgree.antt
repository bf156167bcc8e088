-- A side of a goal means the same in two assignments that agree on its variables, each by the sort of its place.
use Rattle.std.proofs.Common.{◌≡◌, refl, ap, ◌&&◌, List, [], ◌∷◌, ◌++◌, flat_map, ℤ, ◌+ℤ◌, Option, Some, None, Bool, true, inl}
use Rattle.std.specs.List.{list_all}
use Rattle.std.proofs.lemmas.Bool.{and_parts}
use Rattle.cyp_goal.proofs.EachVar.{Each, first, second}
use Rattle.cyp_goal.proofs.Fits.{set_parts}
use Rattle.cyp_goal.specs.Raw.{arg_fits, chunk_fits, lit_fits, set_fits, term_fits}
use Rattle.cyp_heap.proofs.Agreement.{AgreeOn, SameNumbers, SameSets, SameValues, cards_of}
use Rattle.cyp_heap.specs.Chunks.{arg_vars, card_vars, chunk_vars, chunks_vars}
use Rattle.cyp_heap.specs.PredsFormed.{arg_set_vars, arg_terms, chunk_set_vars, chunk_terms, lit_terms}
use Rattle.cyp_heap.specs.declared.chunk.Arg.{Arg}
use Rattle.cyp_heap.specs.declared.chunk.Arg.TheVariants.{Int as IntArg, Set as SetArg}
use Rattle.cyp_heap.specs.declared.chunk.Chunk.{Chunk}
use Rattle.cyp_heap.specs.declared.chunk.Chunk.TheVariants.{Block, Cell, Inst}
use Rattle.cyp_term.specs.Meaning.{Assignment, SameMembers, base_value, value}
use Rattle.cyp_term.specs.Regions.{lit_set_vars}
use Rattle.cyp_term.specs.Terms.{base_vars, lit_vars, lits_vars, set_vars, term_vars}
use Rattle.cyp_term.specs.declared.lit.Lit.{Lit}
use Rattle.cyp_term.specs.declared.lit.Lit.TheVariants.{Eq, Le, Lt, Member, Ne, NotMember, NotSame, NotSub, Same, Sub}
use Rattle.cyp_term.specs.declared.lit.SetTerm.{SetTerm}
use Rattle.cyp_term.specs.declared.term.Term.{Term}
use Rattle.cyp_term.specs.declared.term.Var.{Var}

-- ---- everywhere
module _ (s t : Assignment) (number : (v : Var) → s.number v ≡ t.number v) (members : (v : Var) → SameMembers (s.members v) (t.members v)) where
  base_anywhere : (b : Option Var) → base_value s b ≡ base_value t b
  base_anywhere None = refl
  base_anywhere (Some v) = number v

  values_anywhere : (xs : List Term) → SameValues s t xs
  values_anywhere [] = tt
  values_anywhere (x ∷ xs) = (ap (λ (z : ℤ). z +ℤ x.offset) (base_anywhere x.base), values_anywhere xs)

  sets_anywhere : (vs : List Var) → SameSets s t vs
  sets_anywhere [] = tt
  sets_anywhere (v ∷ vs) = (members v, sets_anywhere vs)

  numbers_anywhere : (vs : List Var) → SameNumbers s t vs
  numbers_anywhere [] = tt
  numbers_anywhere (v ∷ vs) = (number v, numbers_anywhere vs)

  -- assignments that agree at every variable
  pub agree_anywhere : (ls : List Lit) (cs : List Chunk) → AgreeOn s t ls cs
  agree_anywhere ls cs = record {
    lit_values = values_anywhere (flat_map lit_terms ls);
    lit_sets = sets_anywhere (flat_map lit_set_vars ls);
    chunk_values = values_anywhere (flat_map chunk_terms cs);
    chunk_sets = sets_anywhere (flat_map chunk_set_vars cs);
    cards = numbers_anywhere (cards_of cs);
  }

-- ---- joined lists
module _ (s t : Assignment) where
  values_join : (xs ys : List Term) → SameValues s t xs → SameValues s t ys → SameValues s t (xs ++ ys)
  values_join [] ys h k = k
  values_join (x ∷ xs) ys h k = (h.0, values_join xs ys h.1 k)

  sets_join : (xs ys : List Var) → SameSets s t xs → SameSets s t ys → SameSets s t (xs ++ ys)
  sets_join [] ys h k = k
  sets_join (x ∷ xs) ys h k = (h.0, sets_join xs ys h.1 k)

  numbers_join : (xs ys : List Var) → SameNumbers s t xs → SameNumbers s t ys → SameNumbers s t (xs ++ ys)
  numbers_join [] ys h k = k
  numbers_join (x ∷ xs) ys h k = (h.0, numbers_join xs ys h.1 k)

  -- the terms have the same values and the set variables the same members
  abbrev Alike : List Term → List Var → Type 0
  Alike xs vs = SameValues s t xs × SameSets s t vs

  -- ---- on variables that pass the test of their places and of which the fact holds
  module _ (p q : Var → Bool) (K : Var → Type 0) (number : (v : Var) → p v ≡ true → K v → s.number v ≡ t.number v)
      (members : (v : Var) → q v ≡ true → K v → SameMembers (s.members v) (t.members v)) where
    base_alike : (b : Option Var) → list_all p (base_vars b) ≡ true → Each K (base_vars b) → base_value s b ≡ base_value t b
    base_alike None h e = refl
    base_alike (Some v) h e = number v (and_parts (p v) true h).0 (e v (inl refl))

    pub term_alike : (x : Term) → term_fits p x ≡ true → Each K (term_vars x) → value s x ≡ value t x
    term_alike x h e = ap (λ (z : ℤ). z +ℤ x.offset) (base_alike x.base h e)

    terms_alike : (xs : List Term) → list_all (term_fits p) xs ≡ true → Each K (flat_map term_vars xs) → SameValues s t xs
    terms_alike [] h e = tt
    terms_alike (x ∷ xs) h e =
        let both = and_parts (term_fits p x) (list_all (term_fits p) xs) h in
        (term_alike x both.0 (first K (term_vars x) (flat_map term_vars xs) e), terms_alike xs both.1 (second K (term_vars x) (flat_map term_vars xs) e))

    vars_alike : (vs : List Var) → list_all q vs ≡ true → Each K vs → SameSets s t vs
    vars_alike [] h e = tt
    vars_alike (v ∷ vs) h e =
        let both = and_parts (q v) (list_all q vs) h in
        (members v both.0 (e v (inl refl)), vars_alike vs both.1 (second K (v ∷ []) vs e))

    set_alike : (u : SetTerm) → set_fits p q u ≡ true → Each K (set_vars u) → Alike u.elems u.vars
    set_alike u h e =
        let f = set_parts p q u h in
        (terms_alike u.elems f.elems (second K u.vars (flat_map term_vars u.elems) e), vars_alike u.vars f.vars (first K u.vars (flat_map term_vars u.elems) e))

    two_terms : (a b : Term) → (term_fits p a && term_fits p b) ≡ true → Each K (term_vars a ++ term_vars b) → Alike (a ∷ b ∷ []) []
    two_terms a b h e =
        let both = and_parts (term_fits p a) (term_fits p b) h in
        ((term_alike a both.0 (first K (term_vars a) (term_vars b) e), (term_alike b both.1 (second K (term_vars a) (term_vars b) e), tt)), tt)

    two_sets : (a b : SetTerm) → (set_fits p q a && set_fits p q b) ≡ true → Each K (set_vars a ++ set_vars b) → Alike (a.elems ++ b.elems) (a.vars ++ b.vars)
    two_sets a b h e =
        let both = and_parts (set_fits p q a) (set_fits p q b) h in
        let x = set_alike a both.0 (first K (set_vars a) (set_vars b) e) in
        let y = set_alike b both.1 (second K (set_vars a) (set_vars b) e) in
        (values_join a.elems b.elems x.0 y.0, sets_join a.vars b.vars x.1 y.1)

    term_and_set : (a : Term) (b : SetTerm) → (term_fits p a && set_fits p q b) ≡ true → Each K (term_vars a ++ set_vars b) → Alike (a ∷ b.elems) b.vars
    term_and_set a b h e =
        let both = and_parts (term_fits p a) (set_fits p q b) h in
        let y = set_alike b both.1 (second K (term_vars a) (set_vars b) e) in
        ((term_alike a both.0 (first K (term_vars a) (set_vars b) e), y.0), y.1)

    lit_alike : (l : Lit) → lit_fits p q l ≡ true → Each K (lit_vars l) → Alike (lit_terms l) (lit_set_vars l)
    lit_alike (Eq a b) = two_terms a b
    lit_alike (Ne a b) = two_terms a b
    lit_alike (Le a b) = two_terms a b
    lit_alike (Lt a b) = two_terms a b
    lit_alike (Same a b) = two_sets a b
    lit_alike (NotSame a b) = two_sets a b
    lit_alike (Member a b) = term_and_set a b
    lit_alike (NotMember a b) = term_and_set a b
    lit_alike (Sub a b) = two_sets a b
    lit_alike (NotSub a b) = two_sets a b

    arg_alike : (a : Arg) → arg_fits p q a ≡ true → Each K (arg_vars a) → Alike (arg_terms a) (arg_set_vars a)
    arg_alike (IntArg x) h e = ((term_alike x h e, tt), tt)
    arg_alike (SetArg u) h e = set_alike u h e

    -- the elements of a list
    all_alike : {A : Type 0} (test : A → Bool) (vars : A → List Var) (terms : A → List Term) (sets : A → List Var)
        → ((x : A) → test x ≡ true → Each K (vars x) → Alike (terms x) (sets x))
        → (xs : List A) → list_all test xs ≡ true → Each K (flat_map vars xs) → Alike (flat_map terms xs) (flat_map sets xs)
    all_alike test vars terms sets one [] h e = (tt, tt)
    all_alike test vars terms sets one (x ∷ xs) h e =
        let both = and_parts (test x) (list_all test xs) h in
        let a = one x both.0 (first K (vars x) (flat_map vars xs) e) in
        let b = all_alike test vars terms sets one xs both.1 (second K (vars x) (flat_map vars xs) e) in
        (values_join (terms x) (flat_map terms xs) a.0 b.0, sets_join (sets x) (flat_map sets xs) a.1 b.1)

    chunk_alike : (c : Chunk) → chunk_fits p q c ≡ true → Each K (chunk_vars c) → Alike (chunk_terms c) (chunk_set_vars c)
    chunk_alike (Inst i) h e =
        all_alike (arg_fits p q) arg_vars arg_terms arg_set_vars arg_alike i.args (and_parts (list_all (arg_fits p q) i.args) (list_all p (card_vars i.card)) h).0
        (first K (flat_map arg_vars i.args) (card_vars i.card) e)
    chunk_alike (Block b) h e = ((term_alike b.at h e, tt), tt)
    chunk_alike (Cell c) h e = two_terms c.at c.content h e

    numbers_alike : (vs : List Var) → list_all p vs ≡ true → Each K vs → SameNumbers s t vs
    numbers_alike [] h e = tt
    numbers_alike (v ∷ vs) h e =
        let both = and_parts (p v) (list_all p vs) h in
        (number v both.0 (e v (inl refl)), numbers_alike vs both.1 (second K (v ∷ []) vs e))

    cards_alike : (cs : List Chunk) → list_all (chunk_fits p q) cs ≡ true → Each K (chunks_vars cs) → SameNumbers s t (cards_of cs)
    cards_alike [] h e = tt
    cards_alike (Inst i ∷ cs) h e =
        let both = and_parts (chunk_fits p q (Inst i)) (list_all (chunk_fits p q) cs) h in
        numbers_join (card_vars i.card) (cards_of cs)
        (numbers_alike (card_vars i.card) (and_parts (list_all (arg_fits p q) i.args) (list_all p (card_vars i.card)) both.0).1
        (second K (flat_map arg_vars i.args) (card_vars i.card) (first K (chunk_vars (Inst i)) (chunks_vars cs) e)))
        (cards_alike cs both.1 (second K (chunk_vars (Inst i)) (chunks_vars cs) e))
    cards_alike (Block b ∷ cs) h e = cards_alike cs (and_parts (chunk_fits p q (Block b)) (list_all (chunk_fits p q) cs) h).1 (second K (chunk_vars (Block b)) (chunks_vars cs) e)
    cards_alike (Cell c ∷ cs) h e = cards_alike cs (and_parts (chunk_fits p q (Cell c)) (list_all (chunk_fits p q) cs) h).1 (second K (chunk_vars (Cell c)) (chunks_vars cs) e)

    pub agree_on : (ls : List Lit) (cs : List Chunk) → list_all (lit_fits p q) ls ≡ true → list_all (chunk_fits p q) cs ≡ true → Each K (lits_vars ls) → Each K (chunks_vars cs)
        → AgreeOn s t ls cs
    agree_on ls cs h k e f =
        let a = all_alike (lit_fits p q) lit_vars lit_terms lit_set_vars lit_alike ls h e in
        let b = all_alike (chunk_fits p q) chunk_vars chunk_terms chunk_set_vars chunk_alike cs k f in
        record { lit_values = a.0; lit_sets = a.1; chunk_values = b.0; chunk_sets = b.1; cards = cards_alike cs k f }
