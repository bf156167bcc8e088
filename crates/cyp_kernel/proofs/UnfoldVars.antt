-- The variables of an unfolding are those of the arguments and new ones, each of the sort of its place.
use Rattle.std.proofs.Common.{◌≡◌, refl, sym, ap, ◌∙◌, ℕ, zero, suc, ◌+◌, ◌-◌, ◌<◌, ◌≤◌, arith, Bool, true, false, cond, not, ◌&&◌, List, [], ◌∷◌, ◌++◌, is_none, length, map, flat_map, nat_lt, Option, Some, None, inl, inr, subst, ltb-true}
use Rattle.std.specs.List.{AllByRecursion, list_all}
use Rattle.std.proofs.lemmas.Bool.{and_from, and_parts, cond_both, false≢true}
use Rattle.std.proofs.lemmas.List.{length-append}
use Rattle.std.proofs.lemmas.Option.{none-some, same_Some}
use Rattle.cyp_goal.proofs.EachVar.{Each}
use Rattle.cyp_goal.proofs.Fits.{ImagesFit, chunk_fits-apply, lit_fits-apply}
use Rattle.cyp_goal.specs.Raw.{arg_fits, chunk_fits, lit_fits, set_fits, term_fits}
use Rattle.cyp_heap.specs.Chunks.{apply_chunk, arg_vars, card_vars, chunk_vars}
use Rattle.cyp_heap.specs.PredsFormed.{arg_set_vars, arg_terms, chunk_set_vars, chunk_terms, clause_set_vars, clause_terms, is_below, is_closed, lit_terms}
use Rattle.cyp_heap.specs.declared.chunk.Arg.{Arg}
use Rattle.cyp_heap.specs.declared.chunk.Arg.TheVariants.{Int as IntArg, Set as SetArg}
use Rattle.cyp_heap.specs.declared.chunk.Chunk.{Chunk}
use Rattle.cyp_heap.specs.declared.chunk.Chunk.TheVariants.{Block, Cell, Inst}
use Rattle.cyp_heap.specs.declared.chunk.InstOf.{InstOf}
use Rattle.cyp_heap.specs.declared.pred.Clause.{Clause}
use Rattle.cyp_kernel.proofs.AgreeVars.{chunk_sorted, is_number_var, lit_sorted}
use Rattle.cyp_kernel.proofs.AppliedVars.{Brings, CardGoes, ChunkGoes, chunk_each, image_base, lit_each}
use Rattle.cyp_kernel.proofs.NewNumber.{int_var}
use Rattle.cyp_kernel.proofs.UnfoldParams.{set_numbered}
use Rattle.cyp_pred.specs.Unfold.{bind_ints, bind_sets, card_var, clause_subst, int_args, new_ints, new_sets, own_ints, own_sets, set_args}
use Rattle.cyp_pred.specs.declared.unfolded.Next.{Next}
use Rattle.cyp_pred.specs.declared.unfolded.Unfolded.{Unfolded}
use Rattle.cyp_term.proofs.Equality.{Decides-sort_eq, Decides-var_eq}
use Rattle.cyp_term.proofs.Lists.{Among, Among-left, Among-right, Every-append, Every-among, each_at, each_from, flat_in}
use Rattle.cyp_term.specs.Regions.{lit_set_vars}
use Rattle.cyp_term.specs.Terms.{apply_lit, image_or_self, int_image, is_set_var, lit_vars, set_image, set_var, set_vars, sort_eq, term_vars, var_eq, var_term}
use Rattle.cyp_term.specs.declared.lit.Lit.{Lit}
use Rattle.cyp_term.specs.declared.lit.Lit.TheVariants.{Eq, Le, Lt, Member, Ne, NotMember, NotSame, NotSub, Same, Sub}
use Rattle.cyp_term.specs.declared.lit.SetTerm.{SetTerm}
use Rattle.cyp_term.specs.declared.subst.Subst.{Subst}
use Rattle.cyp_term.specs.declared.term.Sort.TheVariants.{Int, Set}
use Rattle.cyp_term.specs.declared.term.Term.{Term}
use Rattle.cyp_term.specs.declared.term.Var.{Var}

-- an instance without a cardinality, or another chunk
abbrev pub ChunkPlain : Chunk → Type 0
ChunkPlain (Inst i) = is_none i.card ≡ true
ChunkPlain _ = Unit {0}

pub plain_goes : (by : Subst) (p q : Var → Bool) (K P : Var → Type 0) (brings : Brings by p q K P) (c : Chunk) → ChunkPlain c → ChunkGoes by p q K P brings c
plain_goes by p q K P brings (Inst i) e = of_card i.card e
  where
    of_card : (o : Option Var) → is_none o ≡ true → CardGoes by p q K P brings o
    of_card None e h k v m = absurd m
    of_card (Some u) e h k v m = absurd (false≢true e)
plain_goes by p q K P brings (Block b) e = tt
plain_goes by p q K P brings (Cell b) e = tt

-- ---- from the terms and set variables of a part to its places

module _ (p q : Var → Bool) where
  -- the terms pass the first test, the set variables the second
  abbrev pub TermsPass : List Term → Type 0
  TermsPass ts = (t : Term) → Among t ts → term_fits p t ≡ true

  abbrev pub VarsPass : List Var → Type 0
  VarsPass vs = (v : Var) → Among v vs → q v ≡ true

  set_from_terms : (u : SetTerm) → TermsPass u.elems → VarsPass u.vars → set_fits p q u ≡ true
  set_from_terms u a b = and_from (list_all q u.vars) (list_all (term_fits p) u.elems) (each_from q u.vars b) (each_from (term_fits p) u.elems a)

  two_terms : (a b : Term) → TermsPass (a ∷ b ∷ []) → (term_fits p a && term_fits p b) ≡ true
  two_terms a b h = and_from (term_fits p a) (term_fits p b) (h a (inl refl)) (h b (inr (inl refl)))

  two_sets : (a b : SetTerm) → TermsPass (a.elems ++ b.elems) → VarsPass (a.vars ++ b.vars) → (set_fits p q a && set_fits p q b) ≡ true
  two_sets a b h k =
      and_from (set_fits p q a) (set_fits p q b) (set_from_terms a (λ t m. h t (Among-left t a.elems b.elems m)) (λ v m. k v (Among-left v a.vars b.vars m)))
      (set_from_terms b (λ t m. h t (Among-right t a.elems b.elems m)) (λ v m. k v (Among-right v a.vars b.vars m)))

  term_and_set : (a : Term) (b : SetTerm) → TermsPass (a ∷ b.elems) → VarsPass b.vars → (term_fits p a && set_fits p q b) ≡ true
  term_and_set a b h k = and_from (term_fits p a) (set_fits p q b) (h a (inl refl)) (set_from_terms b (λ t m. h t (inr m)) k)

  lit_from_terms : (l : Lit) → TermsPass (lit_terms l) → VarsPass (lit_set_vars l) → lit_fits p q l ≡ true
  lit_from_terms (Eq a b) h k = two_terms a b h
  lit_from_terms (Ne a b) h k = two_terms a b h
  lit_from_terms (Le a b) h k = two_terms a b h
  lit_from_terms (Lt a b) h k = two_terms a b h
  lit_from_terms (Same a b) h k = two_sets a b h k
  lit_from_terms (NotSame a b) h k = two_sets a b h k
  lit_from_terms (Member a b) h k = term_and_set a b h k
  lit_from_terms (NotMember a b) h k = term_and_set a b h k
  lit_from_terms (Sub a b) h k = two_sets a b h k
  lit_from_terms (NotSub a b) h k = two_sets a b h k

  arg_from_terms : (a : Arg) → TermsPass (arg_terms a) → VarsPass (arg_set_vars a) → arg_fits p q a ≡ true
  arg_from_terms (IntArg t) h k = h t (inl refl)
  arg_from_terms (SetArg u) h k = set_from_terms u h k

  chunk_from_terms : (c : Chunk) → ChunkPlain c → TermsPass (chunk_terms c) → VarsPass (chunk_set_vars c) → chunk_fits p q c ≡ true
  chunk_from_terms (Inst i) e h k =
      and_from (list_all (arg_fits p q) i.args) (list_all p (card_vars i.card))
      (each_from (arg_fits p q) i.args (λ a m. arg_from_terms a (λ t j. h t (flat_in arg_terms t a i.args m j)) (λ v j. k v (flat_in arg_set_vars v a i.args m j))))
      (no_cards i.card e)
    where
      no_cards : (o : Option Var) → is_none o ≡ true → list_all p (card_vars o) ≡ true
      no_cards None e = refl
      no_cards (Some v) e = absurd (false≢true e)
  chunk_from_terms (Block b) e h k = h b.at (inl refl)
  chunk_from_terms (Cell c) e h k = two_terms c.at c.content h

  -- a clause's literals and chunks
  pub record ClauseFits (c : Clause) : Type 0 where
    pub guard : lit_fits p q c.guard ≡ true
    pub lits : list_all (lit_fits p q) c.lits ≡ true
    pub chunks : list_all (chunk_fits p q) c.heap.chunks ≡ true

  clause_from_terms : (c : Clause) → AllByRecursion ChunkPlain c.heap.chunks → TermsPass (clause_terms c) → VarsPass (clause_set_vars c) → ClauseFits c
  clause_from_terms c plain h k =
      let guard : List Term = lit_terms c.guard in
      let lits : List Term = flat_map lit_terms c.lits in
      let chunks : List Term = flat_map chunk_terms c.heap.chunks in
      let guard' : List Var = lit_set_vars c.guard in
      let lits' : List Var = flat_map lit_set_vars c.lits in
      let chunks' : List Var = flat_map chunk_set_vars c.heap.chunks in
      record {
        guard = lit_from_terms c.guard (λ t m. h t (Among-left t (guard ++ lits) chunks (Among-left t guard lits m))) (λ v m. k v (Among-left v (guard' ++ lits') chunks' (Among-left v guard' lits' m)));
        lits = each_from (lit_fits p q) c.lits (λ l i. lit_from_terms l
            (λ t m. h t (Among-left t (guard ++ lits) chunks (Among-right t guard lits (flat_in lit_terms t l c.lits i m))))
            (λ v m. k v (Among-left v (guard' ++ lits') chunks' (Among-right v guard' lits' (flat_in lit_set_vars v l c.lits i m)))));
        chunks = each_from (chunk_fits p q) c.heap.chunks (λ d i. chunk_from_terms d (Every-among ChunkPlain d c.heap.chunks plain i)
            (λ t m. h t (Among-right t (guard ++ lits) chunks (flat_in chunk_terms t d c.heap.chunks i m)))
            (λ v m. k v (Among-right v (guard' ++ lits') chunks' (flat_in chunk_set_vars v d c.heap.chunks i m))));
      }

-- the tests of a closed clause pass, and so do weaker ones
pub closed_fits : (p q : Var → Bool) (c : Clause) → AllByRecursion ChunkPlain c.heap.chunks → is_closed c ≡ true → ((v : Var) → is_below Int c.ints v ≡ true → p v ≡ true)
    → ((v : Var) → is_below Set c.sets v ≡ true → q v ≡ true) → ClauseFits p q c
closed_fits p q c plain h a b =
    let both = and_parts (list_all (is_below Int c.ints) (flat_map term_vars (clause_terms c))) (list_all (is_below Set c.sets) (clause_set_vars c)) h in
    clause_from_terms p q c plain
    (λ t m. each_from p (term_vars t) (λ v k. a v (each_at (is_below Int c.ints) v (flat_map term_vars (clause_terms c)) both.0 (flat_in term_vars v t (clause_terms c) m k))))
    (λ v m. b v (each_at (is_below Set c.sets) v (clause_set_vars c) both.1 m))

-- ---- what parameters and own variables are bound to

pub int_image_among : (a : ℕ) (ts : List Term) (v : Var) (to : Term) → int_image (bind_ints a ts) v ≡ Some to → Among to ts
int_image_among a [] v to e = absurd (none-some to e)
int_image_among a (t ∷ ts) v to e =
    cond_both (var_eq (int_var a) v) (Some t) (int_image (bind_ints (suc a) ts) v) (λ o. o ≡ Some to → Among to (t ∷ ts))
    (λ _ d. inl (sym (same_Some t to d))) (λ _ d. inr (int_image_among (suc a) ts v to d)) e

pub set_image_among : (a : ℕ) (us : List SetTerm) (v : Var) (to : SetTerm) → set_image (bind_sets a us) v ≡ Some to → Among to us
set_image_among a [] v to e = absurd (none-some to e)
set_image_among a (u ∷ us) v to e =
    cond_both (var_eq (set_numbered a) v) (Some u) (set_image (bind_sets (suc a) us) v) (λ o. o ≡ Some to → Among to (u ∷ us))
    (λ _ d. inl (sym (same_Some u to d))) (λ _ d. inr (set_image_among (suc a) us v to d)) e

not_here : (a k n : ℕ) → a ≤ k → k < a + zero → ⊥
not_here a k n l h = omega arith

int_there : (a k : ℕ) (ts : List Term) → a ≤ k → k < a + length ts → (t : Term) × Among t ts × (int_image (bind_ints a ts) (int_var k) ≡ Some t)
int_there a k [] l h = absurd (not_here a k k l h)
int_there a k (t ∷ ts) l h = at (var_eq (int_var a) (int_var k)) refl (λ i j. int_there (suc a) k ts i j)
  where
    later : (a k n : ℕ) → (a ≡ k → ⊥) → a ≤ k → k < a + suc n → (suc a ≤ k) × (k < suc a + n)
    later a k n d l h = (omega arith, omega arith)

    at : (b : Bool) → var_eq (int_var a) (int_var k) ≡ b → (suc a ≤ k → k < suc a + length ts → (r : Term) × Among r ts × (int_image (bind_ints (suc a) ts) (int_var k) ≡ Some r)) → (r : Term) × Among r (t ∷ ts) × (cond b (Some t) (int_image (bind_ints (suc a) ts) (int_var k)) ≡ Some r)
    at true e more = (t, inl refl, refl)
    at false e more =
        let m = later a k (length ts) (λ d. false≢true (sym e ∙ (Decides-var_eq (int_var a) (int_var k)).1 (ap int_var d))) l h in
        let r = more m.0 m.1 in (r.0, inr r.1, r.2)

set_there : (a k : ℕ) (us : List SetTerm) → a ≤ k → k < a + length us → (u : SetTerm) × Among u us × (set_image (bind_sets a us) (set_numbered k) ≡ Some u)
set_there a k [] l h = absurd (not_here a k k l h)
set_there a k (u ∷ us) l h = at (var_eq (set_numbered a) (set_numbered k)) refl (λ i j. set_there (suc a) k us i j)
  where
    later : (a k n : ℕ) → (a ≡ k → ⊥) → a ≤ k → k < a + suc n → (suc a ≤ k) × (k < suc a + n)
    later a k n d l h = (omega arith, omega arith)

    at : (b : Bool) → var_eq (set_numbered a) (set_numbered k) ≡ b → (suc a ≤ k → k < suc a + length us → (r : SetTerm) × Among r us × (set_image (bind_sets (suc a) us) (set_numbered k) ≡ Some r)) → (r : SetTerm) × Among r (u ∷ us) × (cond b (Some u) (set_image (bind_sets (suc a) us) (set_numbered k)) ≡ Some r)
    at true e more = (u, inl refl, refl)
    at false e more =
        let m = later a k (length us) (λ d. false≢true (sym e ∙ (Decides-var_eq (set_numbered a) (set_numbered k)).1 (ap set_numbered d))) l h in
        let r = more m.0 m.1 in (r.0, inr r.1, r.2)

-- ---- the unfolding of a clause

-- the parts have the sorts of their places, and the fact holds of each of their variables
module _ (K : Var → Type 0) where
  abbrev pub TermHas : Term → Type 0
  TermHas t = (term_fits is_number_var t ≡ true) × Each K (term_vars t)

  abbrev pub SetHas : SetTerm → Type 0
  SetHas u = (set_fits is_number_var is_set_var u ≡ true) × Each K (set_vars u)

  abbrev pub ArgHas : Arg → Type 0
  ArgHas a = (arg_fits is_number_var is_set_var a ≡ true) × Each K (arg_vars a)

  abbrev pub LitHas : Lit → Type 0
  LitHas l = (lit_sorted l ≡ true) × Each K (lit_vars l)

  abbrev pub ChunkHas : Chunk → Type 0
  ChunkHas c = (chunk_sorted c ≡ true) × Each K (chunk_vars c)

  pub record UnfoldedHas (u : Unfolded) : Type 0 where
    pub lits : AllByRecursion LitHas (u.guard ∷ u.lits)
    pub chunks : AllByRecursion ChunkHas u.heap.chunks

  -- new variables have the fact
  pub record NewHave (next : Next) : Type 0 where
    pub ints : (k : ℕ) → next.ints ≤ k → K (int_var k)
    pub sets : (k : ℕ) → next.sets ≤ k → K (set_numbered k)
    pub cards : (k : ℕ) → next.cards ≤ k → K (card_var k)

  int_args_have : (xs : List Arg) → AllByRecursion ArgHas xs → AllByRecursion TermHas (int_args xs)
  int_args_have [] h = tt
  int_args_have (IntArg t ∷ xs) h = (h.0, int_args_have xs h.1)
  int_args_have (SetArg u ∷ xs) h = int_args_have xs h.1

  set_args_have : (xs : List Arg) → AllByRecursion ArgHas xs → AllByRecursion SetHas (set_args xs)
  set_args_have [] h = tt
  set_args_have (IntArg t ∷ xs) h = set_args_have xs h.1
  set_args_have (SetArg u ∷ xs) h = (h.0, set_args_have xs h.1)

pub up : (m k : ℕ) → m ≤ k → m ≤ suc k
up m k l = omega arith

pub self : (m : ℕ) → m ≤ m
self m = omega arith

pub one_var : (K : Var → Type 0) (v : Var) → K v → Each K (v ∷ [])
one_var K v h w (inl e) = subst K (sym e) h
one_var K v h w (inr m) = absurd m

ints_length : (a m : ℕ) → length (map var_term (new_ints a m)) ≡ m
ints_length a zero = refl
ints_length a (suc m) = ap suc (ints_length (suc a) m)

sets_length : (a m : ℕ) → length (map set_var (new_sets a m)) ≡ m
sets_length a zero = refl
sets_length a (suc m) = ap suc (sets_length (suc a) m)

room : (k n x : ℕ) → k < n → k < x + (n - x)
room k n x h = omega arith

is_int : (v : Var) → sort_eq v.sort Int ≡ true → int_var v.number ≡ v
is_int v h = ap (λ s. record { sort = s; number = v.number }) (sym ((Decides-sort_eq v.sort Int).0 h))

is_set : (v : Var) → sort_eq v.sort Set ≡ true → set_numbered v.number ≡ v
is_set v h = ap (λ s. record { sort = s; number = v.number }) (sym ((Decides-sort_eq v.sort Set).0 h))

module _ (K : Var → Type 0) (j : InstOf) (next : Next) (new : NewHave K next) (args : AllByRecursion (ArgHas K) j.args) where
  new_ints_have : (a m : ℕ) → next.ints ≤ a → AllByRecursion (TermHas K) (map var_term (new_ints a m))
  new_ints_have a zero l = tt
  new_ints_have a (suc m) l = ((refl, one_var K (int_var a) (new.ints a l)), new_ints_have (suc a) m (up next.ints a l))

  new_sets_have : (a m : ℕ) → next.sets ≤ a → AllByRecursion (SetHas K) (map set_var (new_sets a m))
  new_sets_have a zero l = tt
  new_sets_have a (suc m) l = ((refl, one_var K (set_numbered a) (new.sets a l)), new_sets_have (suc a) m (up next.sets a l))

  module _ (c : Clause) (plain : AllByRecursion ChunkPlain c.heap.chunks) (closed : is_closed c ≡ true) where
    abbrev pub by : Subst
    by = clause_subst j.args c next

    abbrev pub ts : List Term
    ts = int_args j.args ++ map var_term (new_ints next.ints (own_ints j.args c))

    abbrev pub us : List SetTerm
    us = set_args j.args ++ map set_var (new_sets next.sets (own_sets j.args c))

    terms_have : AllByRecursion (TermHas K) ts
    terms_have =
        Every-append (TermHas K) (int_args j.args) (map var_term (new_ints next.ints (own_ints j.args c))) (int_args_have K j.args args) (new_ints_have next.ints (own_ints j.args c) (self next.ints))

    sets_have : AllByRecursion (SetHas K) us
    sets_have =
        Every-append (SetHas K) (set_args j.args) (map set_var (new_sets next.sets (own_sets j.args c))) (set_args_have K j.args args) (new_sets_have next.sets (own_sets j.args c) (self next.sets))

    ints_long : (k : ℕ) → k < c.ints → k < length ts
    ints_long k h =
        subst (λ m. k < m)
        (sym (length-append (int_args j.args) (map var_term (new_ints next.ints (own_ints j.args c))) ∙ ap (λ m. length (int_args j.args) + m) (ints_length next.ints (own_ints j.args c))))
        (room k c.ints (length (int_args j.args)) h)

    sets_long : (k : ℕ) → k < c.sets → k < length us
    sets_long k h =
        subst (λ m. k < m)
        (sym (length-append (set_args j.args) (map set_var (new_sets next.sets (own_sets j.args c))) ∙ ap (λ m. length (set_args j.args) + m) (sets_length next.sets (own_sets j.args c))))
        (room k c.sets (length (set_args j.args)) h)

    fit : ImagesFit is_number_var is_set_var by
    fit = record {
      ints = λ v to _ e. (Every-among (TermHas K) to ts terms_have (int_image_among 0 ts v to e)).0;
      sets = λ v to _ e. (Every-among (SetHas K) to us sets_have (set_image_among 0 us v to e)).0;
    }

    abbrev pub Any : Var → Type 0
    Any v = Unit {0}

    from_zero : (k n : ℕ) → k < n → k < 0 + n
    from_zero k n h = omega arith

    at_least : (k : ℕ) → 0 ≤ k
    at_least k = omega arith

    brings : Brings by (is_below Int c.ints) (is_below Set c.sets) Any K
    brings = record {
      ints = λ v h _.
          let both = and_parts (sort_eq v.sort Int) (nat_lt v.number c.ints) h in
          let r = int_there 0 v.number ts (at_least v.number) (from_zero v.number (length ts) (ints_long v.number (ltb-true v.number c.ints both.1))) in
          let is : int_image by.ints v ≡ Some r.0 = subst (λ (w : Var). int_image by.ints w ≡ Some r.0) (is_int v both.0) r.2 in
          subst (λ (o : Option Term). Each K (image_base v o)) (sym is) (Every-among (TermHas K) r.0 ts terms_have r.1).1;
      sets = λ v h _.
          let both = and_parts (sort_eq v.sort Set) (nat_lt v.number c.sets) h in
          let r = set_there 0 v.number us (at_least v.number) (from_zero v.number (length us) (sets_long v.number (ltb-true v.number c.sets both.1))) in
          let is : set_image by.sets v ≡ Some r.0 = subst (λ (w : Var). set_image by.sets w ≡ Some r.0) (is_set v both.0) r.2 in
          subst (λ (o : Option SetTerm). Each K (set_vars (image_or_self v o))) (sym is) (Every-among (SetHas K) r.0 us sets_have r.1).1;
    }

    pub below : ClauseFits (is_below Int c.ints) (is_below Set c.sets) c
    below = closed_fits (is_below Int c.ints) (is_below Set c.sets) c plain closed (λ v h. h) (λ v h. h)

    pub sorted : ClauseFits is_number_var is_set_var c
    sorted =
        closed_fits is_number_var is_set_var c plain closed
        (λ v h. ap (λ s. not (sort_eq s Set)) ((Decides-sort_eq v.sort Int).0 (and_parts (sort_eq v.sort Int) (nat_lt v.number c.ints) h).0))
        (λ v h. (and_parts (sort_eq v.sort Set) (nat_lt v.number c.sets) h).0)

    pub lit_has : (l : Lit) → lit_fits is_number_var is_set_var l ≡ true → lit_fits (is_below Int c.ints) (is_below Set c.sets) l ≡ true → LitHas K (apply_lit by l)
    lit_has l h k = (lit_fits-apply is_number_var is_set_var by fit l h, lit_each by (is_below Int c.ints) (is_below Set c.sets) Any K brings l k (λ v m. tt))

    pub chunk_has : (d : Chunk) → ChunkPlain d → chunk_fits is_number_var is_set_var d ≡ true → chunk_fits (is_below Int c.ints) (is_below Set c.sets) d ≡ true → ChunkHas K (apply_chunk by d)
    chunk_has d e h k =
        (chunk_fits-apply is_number_var is_set_var by fit d h, chunk_each by (is_below Int c.ints) (is_below Set c.sets) Any K brings d (plain_goes by (is_below Int c.ints) (is_below Set c.sets) Any K brings d e) k (λ v m. tt))
