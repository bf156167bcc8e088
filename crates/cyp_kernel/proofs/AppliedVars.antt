-- A fact of each variable that a substitution puts in holds of each variable of what is substituted.
use Rattle.std.proofs.Common.{◌≡◌, refl, sym, ◌&&◌, Bool, List, [], ◌∷◌, ◌++◌, map, flat_map, Option, Some, None, true, inl, inr, subst, ⊎_elim}
use Rattle.std.specs.List.{list_all}
use Rattle.std.proofs.lemmas.Bool.{and_parts}
use Rattle.cyp_goal.proofs.EachVar.{Each, first, second}
use Rattle.cyp_goal.proofs.Fits.{set_parts}
use Rattle.cyp_goal.specs.Raw.{arg_fits, chunk_fits, images_fit, lit_fits, set_fits, term_fits}
use Rattle.cyp_heap.specs.Chunks.{apply_arg, apply_card, apply_chunk, arg_vars, card_vars, chunk_vars, chunks_vars}
use Rattle.cyp_heap.specs.Goals.{apply_bind, apply_set_bind, image_vars}
use Rattle.cyp_heap.specs.declared.chunk.Arg.{Arg}
use Rattle.cyp_heap.specs.declared.chunk.Arg.TheVariants.{Int as IntArg, Set as SetArg}
use Rattle.cyp_heap.specs.declared.chunk.Chunk.{Chunk}
use Rattle.cyp_heap.specs.declared.chunk.Chunk.TheVariants.{Block, Cell, Inst}
use Rattle.cyp_term.proofs.Equality.{Decides-term_eq, Decides-var_eq}
use Rattle.cyp_term.proofs.Lists.{Among, Among-cases, Among-left, Among-right, flat_in, flat_out}
use Rattle.cyp_term.proofs.Repeats.{without_repeats_out}
use Rattle.cyp_term.specs.Terms.{apply_lit, apply_set, apply_term, apply_var, base_vars, image_or_self, int_image, lit_vars, lits_vars, set_image, set_vars, term_at, term_base, term_eq, term_vars, var_eq}
use Rattle.cyp_term.specs.declared.lit.Lit.{Lit}
use Rattle.cyp_term.specs.declared.lit.Lit.TheVariants.{Eq, Le, Lt, Member, Ne, NotMember, NotSame, NotSub, Same, Sub}
use Rattle.cyp_term.specs.declared.lit.SetTerm.{SetTerm}
use Rattle.cyp_term.specs.declared.subst.IntBind.{IntBind}
use Rattle.cyp_term.specs.declared.subst.SetBind.{SetBind}
use Rattle.cyp_term.specs.declared.subst.Subst.{Subst}
use Rattle.cyp_term.specs.declared.term.Term.{Term}
use Rattle.cyp_term.specs.declared.term.Var.{Var}

-- the variables of an integer image; the variable itself where it has none
abbrev pub image_base : Var → Option Term → List Var
image_base v None = v ∷ []
image_base v (Some to) = term_vars to

-- two parts of a list
pub joined : (P : Var → Type 0) (us ws : List Var) → Each P us → Each P ws → Each P (us ++ ws)
joined P us ws f g v k = ⊎_elim (f v) (g v) (Among-cases v us ws k)

-- what the images of variables bring, by the tests of the places where the variables stand and a fact of each
pub record Brings (by : Subst) (p q : Var → Bool) (K P : Var → Type 0) : Type 0 where
  pub ints : (v : Var) → p v ≡ true → K v → Each P (image_base v (int_image by.ints v))
  pub sets : (v : Var) → q v ≡ true → K v → Each P (set_vars (image_or_self v (set_image by.sets v)))

module _ (by : Subst) (p q : Var → Bool) (K P : Var → Type 0) (brings : Brings by p q K P) where
  at_image : (t : Term) (v : Var) → t.base ≡ Some v → (o : Option Term) → Each P (image_base v o) → Each P (term_vars (term_at t o))
  at_image t v e None h = subst (λ (b : Option Var). Each P (base_vars b)) (sym e) h
  at_image t v e (Some to) h = h

  at_base : (t : Term) (b : Option Var) → t.base ≡ b → list_all p (base_vars b) ≡ true → Each K (base_vars b) → Each P (term_vars (term_base by t b))
  at_base t None e h k = subst (λ (b : Option Var). Each P (base_vars b)) (sym e) (λ v m. absurd m)
  at_base t (Some v) e h k = at_image t v e (int_image by.ints v) (brings.ints v (and_parts (p v) true h).0 (k v (inl refl)))

  term_each : (t : Term) → term_fits p t ≡ true → Each K (term_vars t) → Each P (term_vars (apply_term by t))
  term_each t h k = at_base t t.base refl h k

  -- the elements of a list
  list_each : {A B : Type 0} (test : A → Bool) (vars : A → List Var) (f : A → B) (vars' : B → List Var) → ((x : A) → test x ≡ true → Each K (vars x) → Each P (vars' (f x)))
      → (xs : List A) → list_all test xs ≡ true → Each K (flat_map vars xs) → Each P (flat_map vars' (map f xs))
  list_each test vars f vars' one [] h k = λ v m. absurd m
  list_each test vars f vars' one (x ∷ xs) h k =
      let both = and_parts (test x) (list_all test xs) h in
      joined P (vars' (f x)) (flat_map vars' (map f xs)) (one x both.0 (first K (vars x) (flat_map vars xs) k))
      (list_each test vars f vars' one xs both.1 (second K (vars x) (flat_map vars xs) k))

  abbrev image : Var → SetTerm
  image v = image_or_self v (set_image by.sets v)

  images_each : (us : List Var) → list_all q us ≡ true → Each K us → (i : SetTerm) → Among i (map image us) → Each P (set_vars i)
  images_each [] h k i m = absurd m
  images_each (u ∷ us) h k i (inl e) = subst (λ (x : SetTerm). Each P (set_vars x)) (sym e) (brings.sets u (and_parts (q u) (list_all q us) h).0 (k u (inl refl)))
  images_each (u ∷ us) h k i (inr m) = images_each us (and_parts (q u) (list_all q us) h).1 (second K (u ∷ []) us k) i m

  set_each : (u : SetTerm) → set_fits p q u ≡ true → Each K (set_vars u) → Each P (set_vars (apply_set by u))
  set_each u h k =
      let f = set_parts p q u h in
      let us : List SetTerm = map image u.vars in
      let of_images = images_each u.vars f.vars (first K u.vars (flat_map term_vars u.elems) k) in
      let of_elems = list_each (term_fits p) term_vars (apply_term by) term_vars term_each u.elems f.elems (second K u.vars (flat_map term_vars u.elems) k) in
      let es : List Term = flat_map (λ (i : SetTerm). i.elems) us ++ map (apply_term by) u.elems in
      joined P (apply_set by u).vars (flat_map term_vars (apply_set by u).elems)
      (λ v m.
      let i = flat_out (λ (x : SetTerm). x.vars) v us (without_repeats_out var_eq Decides-var_eq v (flat_map (λ (x : SetTerm). x.vars) us) m) in
      of_images i.0 i.1 v (Among-left v i.0.vars (flat_map term_vars i.0.elems) i.2))
      (λ v m.
      let t = flat_out term_vars v (apply_set by u).elems m in
      ⊎_elim
      (λ o. let i = flat_out (λ (x : SetTerm). x.elems) t.0 us o in of_images i.0 i.1 v (Among-right v i.0.vars (flat_map term_vars i.0.elems) (flat_in term_vars v t.0 i.0.elems i.2 t.2)))
      (λ o. of_elems v (flat_in term_vars v t.0 (map (apply_term by) u.elems) o t.2))
      (Among-cases t.0 (flat_map (λ (x : SetTerm). x.elems) us) (map (apply_term by) u.elems) (without_repeats_out term_eq Decides-term_eq t.0 es t.1)))

  -- two parts, each with its test
  both_each : (a b : Bool) (us ws us' ws' : List Var) → (a ≡ true → Each K us → Each P us') → (b ≡ true → Each K ws → Each P ws') → (a && b) ≡ true → Each K (us ++ ws) → Each P (us' ++ ws')
  both_each a b us ws us' ws' f g h k = let both = and_parts a b h in joined P us' ws' (f both.0 (first K us ws k)) (g both.1 (second K us ws k))

  two_terms : (a b : Term) → (term_fits p a && term_fits p b) ≡ true → Each K (term_vars a ++ term_vars b) → Each P (term_vars (apply_term by a) ++ term_vars (apply_term by b))
  two_terms a b = both_each (term_fits p a) (term_fits p b) (term_vars a) (term_vars b) (term_vars (apply_term by a)) (term_vars (apply_term by b)) (term_each a) (term_each b)

  two_sets : (a b : SetTerm) → (set_fits p q a && set_fits p q b) ≡ true → Each K (set_vars a ++ set_vars b) → Each P (set_vars (apply_set by a) ++ set_vars (apply_set by b))
  two_sets a b = both_each (set_fits p q a) (set_fits p q b) (set_vars a) (set_vars b) (set_vars (apply_set by a)) (set_vars (apply_set by b)) (set_each a) (set_each b)

  term_and_set : (a : Term) (b : SetTerm) → (term_fits p a && set_fits p q b) ≡ true → Each K (term_vars a ++ set_vars b) → Each P (term_vars (apply_term by a) ++ set_vars (apply_set by b))
  term_and_set a b = both_each (term_fits p a) (set_fits p q b) (term_vars a) (set_vars b) (term_vars (apply_term by a)) (set_vars (apply_set by b)) (term_each a) (set_each b)

  pub lit_each : (l : Lit) → lit_fits p q l ≡ true → Each K (lit_vars l) → Each P (lit_vars (apply_lit by l))
  lit_each (Eq a b) = two_terms a b
  lit_each (Ne a b) = two_terms a b
  lit_each (Le a b) = two_terms a b
  lit_each (Lt a b) = two_terms a b
  lit_each (Same a b) = two_sets a b
  lit_each (NotSame a b) = two_sets a b
  lit_each (Member a b) = term_and_set a b
  lit_each (NotMember a b) = term_and_set a b
  lit_each (Sub a b) = two_sets a b
  lit_each (NotSub a b) = two_sets a b

  pub lits_each : (ls : List Lit) → list_all (lit_fits p q) ls ≡ true → Each K (lits_vars ls) → Each P (lits_vars (map (apply_lit by) ls))
  lits_each = list_each (lit_fits p q) lit_vars (apply_lit by) lit_vars lit_each

  arg_each : (a : Arg) → arg_fits p q a ≡ true → Each K (arg_vars a) → Each P (arg_vars (apply_arg by a))
  arg_each (IntArg t) = term_each t
  arg_each (SetArg u) = set_each u

  -- what a cardinality becomes
  abbrev pub CardGoes : Option Var → Type 0
  CardGoes c = list_all p (card_vars c) ≡ true → Each K (card_vars c) → Each P (card_vars (apply_card by c))

  abbrev pub ChunkGoes : Chunk → Type 0
  ChunkGoes (Inst i) = CardGoes i.card
  ChunkGoes _ = Unit {0}

  pub chunk_each : (c : Chunk) → ChunkGoes c → chunk_fits p q c ≡ true → Each K (chunk_vars c) → Each P (chunk_vars (apply_chunk by c))
  chunk_each (Inst i) g =
      both_each (list_all (arg_fits p q) i.args) (list_all p (card_vars i.card)) (flat_map arg_vars i.args) (card_vars i.card) (flat_map arg_vars (map (apply_arg by) i.args)) (card_vars (apply_card by i.card))
      (list_each (arg_fits p q) arg_vars (apply_arg by) arg_vars arg_each i.args) g
  chunk_each (Block b) g = term_each b.at
  chunk_each (Cell c) g = two_terms c.at c.content

  -- the images of a map
  pub maps_each : (m : Subst) → images_fit p q m ≡ true → Each K (image_vars m) → Each P (image_vars (record { ints = map (apply_bind by) m.ints; sets = map (apply_set_bind by) m.sets }))
  maps_each m =
      both_each (list_all (λ (b : IntBind). term_fits p b.to) m.ints) (list_all (λ (b : SetBind). set_fits p q b.to) m.sets)
      (flat_map (λ (b : IntBind). term_vars b.to) m.ints) (flat_map (λ (b : SetBind). set_vars b.to) m.sets)
      (flat_map (λ (b : IntBind). term_vars b.to) (map (apply_bind by) m.ints)) (flat_map (λ (b : SetBind). set_vars b.to) (map (apply_set_bind by) m.sets))
      (list_each (λ (b : IntBind). term_fits p b.to) (λ (b : IntBind). term_vars b.to) (apply_bind by) (λ (b : IntBind). term_vars b.to) (λ b. term_each b.to) m.ints)
      (list_each (λ (b : SetBind). set_fits p q b.to) (λ (b : SetBind). set_vars b.to) (apply_set_bind by) (λ (b : SetBind). set_vars b.to) (λ b. set_each b.to) m.sets)

  -- chunks, by what the images of cardinalities are
  module _ (vars : (v : Var) → p v ≡ true → K v → P (apply_var by v)) where
    card_each : (c : Option Var) → CardGoes c
    card_each None h k v m = absurd m
    card_each (Some c) h k v (inl e) = subst P (sym e) (vars c (and_parts (p c) true h).0 (k c (inl refl)))
    card_each (Some c) h k v (inr m) = absurd m

    goes : (c : Chunk) → ChunkGoes c
    goes (Inst i) = card_each i.card
    goes (Block b) = tt
    goes (Cell c) = tt

    pub chunks_each : (cs : List Chunk) → list_all (chunk_fits p q) cs ≡ true → Each K (chunks_vars cs) → Each P (chunks_vars (map (apply_chunk by) cs))
    chunks_each = list_each (chunk_fits p q) chunk_vars (apply_chunk by) chunk_vars (λ c. chunk_each c (goes c))
