-- The terms and set variables of what is read: which terms and names of the tree say them.
use Rattle.std.proofs.Common.{List, Some, [], filter, flat_map, false, inl, inr, not, refl, true, ◌++◌, ◌∷◌, ◌≡◌, ◌≢◌, ◌⊎◌}
use Rattle.std.specs.Prelude.{Bool, cond}
use Rattle.cyp_lex.specs.declared.ident.Ident.{Ident}
use Rattle.cyp_heap.specs.PredsFormed.{arg_set_vars, arg_terms, chunk_set_vars, chunk_terms, lit_terms}
use Rattle.cyp_term.specs.Regions.{lit_set_vars}
use Rattle.cyp_term.specs.Terms.{negated, term_eq, var_eq}
use Rattle.cyp_term.specs.declared.lit.Lit.{Lit}
use Rattle.cyp_term.specs.declared.lit.Lit.TheVariants.{Eq, Le, Lt, Member, Ne, NotMember, NotSame, NotSub, Same, Sub}
use Rattle.cyp_term.specs.declared.term.Sort.{Sort}
use Rattle.cyp_term.specs.declared.term.Sort.TheVariants.{Card, Int, Set}
use Rattle.cyp_term.specs.declared.term.Term.{Term}
use Rattle.cyp_term.specs.declared.term.Var.{Var}
use Rattle.cyp_term.proofs.Equality.{Decides-term_eq, Decides-var_eq}
use Rattle.cyp_term.proofs.Lists.{Among, Among-cases, Among-left, Among-right, filter_in, flat_in, flat_out, map_from}
use Rattle.cyp_term.proofs.Repeats.{without_repeats_out}
use Rattle.cyp_names.specs.Bodies.{body_lits, in_kinds, is_name, is_turned, kept_body, kept_lit, kept_parts, kept_set}
use Rattle.cyp_names.specs.ReadTerms.{Scope, compared, part_elems, part_vars, read_arg, read_args, read_chunk, read_chunks, read_int, read_lit, read_lits, read_union, var_named}
use Rattle.cyp_text.specs.LitTrees.{Comparing, Inside, LitTree, Negation, SameSets, SubSets}
use Rattle.cyp_text.specs.declared.tree.ArgTree.{ArgTree}
use Rattle.cyp_text.specs.declared.tree.ArgTree.TheVariants.{BracesArg, TermArg, UnionArg}
use Rattle.cyp_text.specs.declared.tree.BodyTree.{BodyTree}
use Rattle.cyp_text.specs.declared.tree.ChunkTree.{ChunkTree}
use Rattle.cyp_text.specs.declared.tree.ChunkTree.TheVariants.{BlockOf, InstanceOf, NamedCell, TermCell}
use Rattle.cyp_text.specs.declared.tree.Comparison.{Comparison}
use Rattle.cyp_text.specs.declared.tree.Comparison.TheVariants.{IsAbove, IsAtLeast, IsAtMost, IsBelow, IsEqual, IsUnequal}
use Rattle.cyp_text.specs.declared.tree.IntTree.{IntTree}
use Rattle.cyp_text.specs.declared.tree.IntTree.TheVariants.{Named}
use Rattle.cyp_text.specs.declared.tree.PartTree.{PartTree}
use Rattle.cyp_text.specs.declared.tree.PartTree.TheVariants.{Braces, PartName}
use Rattle.cyp_text.specs.declared.tree.PredTree.{PredTree}
use Rattle.cyp_names.specs.Uses.{Use, arg_sorts, arg_uses, args_uses, chunk_uses, int_uses, part_uses, set_parts, use_of}
use Rattle.cyp_formed.proofs.PlainSorts.{arg_sorts_plain}

-- each of these is one of those
abbrev pub Within : List Use → List Use → Type 0
Within us ws = (u : Use) → Among u us → Among u ws

-- the term is said by a term of the tree, whose names are among these
abbrev pub TermIs : Scope → List Use → Term → Type 0
TermIs sc us t = (x : IntTree) × Within (int_uses x) us × (t ≡ read_int sc x)

-- the set variable is that of one of these names
abbrev pub SetVarIs : Scope → List Use → Var → Type 0
SetVarIs sc us v = (i : Ident) × Among (use_of Set i) us × (v ≡ var_named sc i.text)

module _ (sc : Scope) where
  pub term_more : (us ws : List Use) → Within us ws → (t : Term) → TermIs sc us t → TermIs sc ws t
  term_more us ws w t i = (i.0, λ u m. w u (i.1 u m), i.2)

  pub set_var_more : (us ws : List Use) → Within us ws → (v : Var) → SetVarIs sc us v → SetVarIs sc ws v
  set_var_more us ws w v i = (i.0, w (use_of Set i.0) i.1, i.2)

  at_left : (us ws : List Use) → Within us (us ++ ws)
  at_left us ws u m = Among-left u us ws m

  at_right : (us ws : List Use) → Within ws (us ++ ws)
  at_right us ws u m = Among-right u us ws m

  -- ---- unions

  elem_is : (us : List PartTree) (t : Term) → Among t (read_union sc us).elems → TermIs sc (kept_parts us) t
  elem_is us t m = by_part (flat_out (part_elems sc) t us (without_repeats_out term_eq Decides-term_eq t (flat_map (part_elems sc) us) m))
    where
      rest : List PartTree
      rest = filter (λ w. not (is_name w)) us

      by_tree : (w : PartTree) → Among w us → Among t (part_elems sc w) → TermIs sc (kept_parts us) t
      by_tree (PartName i) a k = absurd k
      by_tree (Braces p ts) a k =
          let f = map_from (read_int sc) t ts k in
          (f.0, λ u n. Among-right u _ (flat_map part_uses rest) (flat_in part_uses u (Braces p ts) rest (filter_in (λ w. not (is_name w)) (Braces p ts) us a refl) (flat_in int_uses u f.0 ts f.1 n)), f.2)

      by_part : (w : PartTree) × Among w us × Among t (part_elems sc w) → TermIs sc (kept_parts us) t
      by_part o = by_tree o.0 o.1 o.2

  set_var_is : (us : List PartTree) (v : Var) → Among v (read_union sc us).vars → SetVarIs sc (kept_parts us) v
  set_var_is us v m = by_part (flat_out (part_vars sc) v us (without_repeats_out var_eq Decides-var_eq v (flat_map (part_vars sc) us) m))
    where
      names : List PartTree
      names = filter is_name us

      by_tree : (w : PartTree) → Among w us → Among v (part_vars sc w) → SetVarIs sc (kept_parts us) v
      by_tree (Braces p ts) a k = absurd k
      by_tree (PartName i) a (inr k) = absurd k
      by_tree (PartName i) a (inl e) =
          (i, Among-left (use_of Set i) (flat_map part_uses names) _ (flat_in part_uses (use_of Set i) (PartName i) names (filter_in is_name (PartName i) us a refl) (inl refl)), e)

      by_part : (w : PartTree) × Among w us × Among v (part_vars sc w) → SetVarIs sc (kept_parts us) v
      by_part o = by_tree o.0 o.1 o.2

  two_elems : (as' bs : List PartTree) (t : Term) → Among t ((read_union sc as').elems ++ (read_union sc bs).elems) → TermIs sc (kept_parts as' ++ kept_parts bs) t
  two_elems as' bs t m = elim (Among-cases t (read_union sc as').elems _ m) [
    | inl a ↦ term_more (kept_parts as') _ (at_left (kept_parts as') (kept_parts bs)) t (elem_is as' t a)
    | inr b ↦ term_more (kept_parts bs) _ (at_right (kept_parts as') (kept_parts bs)) t (elem_is bs t b)
  ]

  two_set_vars : (as' bs : List PartTree) (v : Var) → Among v ((read_union sc as').vars ++ (read_union sc bs).vars) → SetVarIs sc (kept_parts as' ++ kept_parts bs) v
  two_set_vars as' bs v m = elim (Among-cases v (read_union sc as').vars _ m) [
    | inl a ↦ set_var_more (kept_parts as') _ (at_left (kept_parts as') (kept_parts bs)) v (set_var_is as' v a)
    | inr b ↦ set_var_more (kept_parts bs) _ (at_right (kept_parts as') (kept_parts bs)) v (set_var_is bs v b)
  ]

  -- ---- literals

  terms_negated : (l : Lit) (t : Term) → Among t (lit_terms (negated l)) → Among t (lit_terms l)
  terms_negated (Le a b) t (inl e) = inr (inl e)
  terms_negated (Le a b) t (inr (inl e)) = inl e
  terms_negated (Le a b) t (inr (inr m)) = absurd m
  terms_negated (Lt a b) t (inl e) = inr (inl e)
  terms_negated (Lt a b) t (inr (inl e)) = inl e
  terms_negated (Lt a b) t (inr (inr m)) = absurd m
  terms_negated (Eq a b) t m = m
  terms_negated (Ne a b) t m = m
  terms_negated (Same a b) t m = m
  terms_negated (NotSame a b) t m = m
  terms_negated (Member a b) t m = m
  terms_negated (NotMember a b) t m = m
  terms_negated (Sub a b) t m = m
  terms_negated (NotSub a b) t m = m

  set_vars_negated : (l : Lit) (v : Var) → Among v (lit_set_vars (negated l)) → Among v (lit_set_vars l)
  set_vars_negated (Le a b) v m = m
  set_vars_negated (Lt a b) v m = m
  set_vars_negated (Eq a b) v m = m
  set_vars_negated (Ne a b) v m = m
  set_vars_negated (Same a b) v m = m
  set_vars_negated (NotSame a b) v m = m
  set_vars_negated (Member a b) v m = m
  set_vars_negated (NotMember a b) v m = m
  set_vars_negated (Sub a b) v m = m
  set_vars_negated (NotSub a b) v m = m

  turned_left : (turned : Bool) (us ws : List Use) → Within us (cond turned (ws ++ us) (us ++ ws))
  turned_left true us ws u m = Among-right u ws us m
  turned_left false us ws u m = Among-left u us ws m

  turned_right : (turned : Bool) (us ws : List Use) → Within ws (cond turned (ws ++ us) (us ++ ws))
  turned_right true us ws u m = Among-left u ws us m
  turned_right false us ws u m = Among-right u us ws m

  first_two : (x y t : Term) → Among t (x ∷ y ∷ []) → (t ≡ x) ⊎ (t ≡ y)
  first_two x y t (inl e) = inl e
  first_two x y t (inr (inl e)) = inr e
  first_two x y t (inr (inr n)) = absurd n

  other_two : (x y t : Term) → Among t (y ∷ x ∷ []) → (t ≡ x) ⊎ (t ≡ y)
  other_two x y t (inl e) = inr e
  other_two x y t (inr (inl e)) = inl e
  other_two x y t (inr (inr n)) = absurd n

  one_of_two : (c : Comparison) (a b t : Term) → Among t (lit_terms (compared c a b)) → (t ≡ a) ⊎ (t ≡ b)
  one_of_two IsEqual a b t m = first_two a b t m
  one_of_two IsUnequal a b t m = first_two a b t m
  one_of_two IsAtMost a b t m = first_two a b t m
  one_of_two IsBelow a b t m = first_two a b t m
  one_of_two IsAtLeast a b t m = other_two a b t m
  one_of_two IsAbove a b t m = other_two a b t m

  no_set_vars : (c : Comparison) (a b : Term) (v : Var) → Among v (lit_set_vars (compared c a b)) → ⊥
  no_set_vars IsEqual a b v m = m
  no_set_vars IsUnequal a b v m = m
  no_set_vars IsAtMost a b v m = m
  no_set_vars IsBelow a b v m = m
  no_set_vars IsAtLeast a b v m = m
  no_set_vars IsAbove a b v m = m

  pub lit_terms_are : (n : Bool) (l : LitTree) (t : Term) → Among t (lit_terms (read_lit sc l)) → TermIs sc (kept_lit n l) t
  lit_terms_are n (Comparing a c b) t m = elim (one_of_two c (read_int sc a) (read_int sc b) t m) [
    | inl e ↦ (a, turned_left (is_turned n c) (int_uses a) (int_uses b), e)
    | inr e ↦ (b, turned_right (is_turned n c) (int_uses a) (int_uses b), e)
  ]
  lit_terms_are n (SameSets a b) t m = two_elems (set_parts a) (set_parts b) t m
  lit_terms_are n (SubSets a b) t m = two_elems (set_parts a) (set_parts b) t m
  lit_terms_are n (Inside a b) t (inl e) = (a, at_left (int_uses a) (kept_set b), e)
  lit_terms_are n (Inside a b) t (inr m) = term_more (kept_set b) _ (at_right (int_uses a) (kept_set b)) t (elem_is (set_parts b) t m)
  lit_terms_are n (Negation p l) t m = lit_terms_are (not n) l t (terms_negated (read_lit sc l) t m)

  pub lit_set_vars_are : (n : Bool) (l : LitTree) (v : Var) → Among v (lit_set_vars (read_lit sc l)) → SetVarIs sc (kept_lit n l) v
  lit_set_vars_are n (Comparing a c b) v m = absurd (no_set_vars c (read_int sc a) (read_int sc b) v m)
  lit_set_vars_are n (SameSets a b) v m = two_set_vars (set_parts a) (set_parts b) v m
  lit_set_vars_are n (SubSets a b) v m = two_set_vars (set_parts a) (set_parts b) v m
  lit_set_vars_are n (Inside a b) v m = set_var_more (kept_set b) _ (at_right (int_uses a) (kept_set b)) v (set_var_is (set_parts b) v m)
  lit_set_vars_are n (Negation p l) v m = lit_set_vars_are (not n) l v (set_vars_negated (read_lit sc l) v m)

  -- ---- chunks

  one_term : (x : IntTree) (t : Term) → Among t (read_int sc x ∷ []) → TermIs sc (int_uses x) t
  one_term x t (inl e) = (x, (λ u m. m), e)
  one_term x t (inr m) = absurd m

  arg_terms_are : (s : Sort) → s ≢ Card → (x : ArgTree) (t : Term) → Among t (arg_terms (read_arg sc s x)) → TermIs sc (arg_uses kept_parts (Some s) x) t
  arg_terms_are Card n x t m = absurd (n refl)
  arg_terms_are Set n (TermArg (Named i)) t m = absurd m
  arg_terms_are Int n (TermArg (Named i)) t m = one_term (Named i) t m
  arg_terms_are s n (TermArg x) t m = one_term x t m
  arg_terms_are s n (BracesArg p ts us) t m = elem_is (Braces p ts ∷ us) t m
  arg_terms_are s n (UnionArg i u us) t m = elem_is (PartName i ∷ u ∷ us) t m

  arg_set_vars_are : (s : Sort) → s ≢ Card → (x : ArgTree) (v : Var) → Among v (arg_set_vars (read_arg sc s x)) → SetVarIs sc (arg_uses kept_parts (Some s) x) v
  arg_set_vars_are Card n x v m = absurd (n refl)
  arg_set_vars_are Set n (TermArg (Named i)) v (inl e) = (i, inl refl, e)
  arg_set_vars_are Set n (TermArg (Named i)) v (inr m) = absurd m
  arg_set_vars_are Int n (TermArg (Named i)) v m = absurd m
  arg_set_vars_are s n (TermArg x) v m = absurd m
  arg_set_vars_are s n (BracesArg p ts us) v m = set_var_is (Braces p ts ∷ us) v m
  arg_set_vars_are s n (UnionArg i u us) v m = set_var_is (PartName i ∷ u ∷ us) v m

  args_terms_are : (ss : List Sort) → ((s : Sort) → Among s ss → s ≢ Card) → (xs : List ArgTree) (t : Term) → Among t (flat_map arg_terms (read_args sc ss xs)) → TermIs sc (args_uses kept_parts ss xs) t
  args_terms_are [] n xs t m = absurd m
  args_terms_are (s ∷ ss) n [] t m = absurd m
  args_terms_are (s ∷ ss) n (x ∷ xs) t m = elim (Among-cases t (arg_terms (read_arg sc s x)) _ m) [
    | inl a ↦ term_more (arg_uses kept_parts (Some s) x) _ (at_left _ (args_uses kept_parts ss xs)) t (arg_terms_are s (n s (inl refl)) x t a)
    | inr b ↦ term_more (args_uses kept_parts ss xs) _ (at_right (arg_uses kept_parts (Some s) x) _) t (args_terms_are ss (λ r k. n r (inr k)) xs t b)
  ]

  args_set_vars_are : (ss : List Sort) → ((s : Sort) → Among s ss → s ≢ Card) → (xs : List ArgTree) (v : Var) → Among v (flat_map arg_set_vars (read_args sc ss xs)) → SetVarIs sc (args_uses kept_parts ss xs) v
  args_set_vars_are [] n xs v m = absurd m
  args_set_vars_are (s ∷ ss) n [] v m = absurd m
  args_set_vars_are (s ∷ ss) n (x ∷ xs) v m = elim (Among-cases v (arg_set_vars (read_arg sc s x)) _ m) [
    | inl a ↦ set_var_more (arg_uses kept_parts (Some s) x) _ (at_left _ (args_uses kept_parts ss xs)) v (arg_set_vars_are s (n s (inl refl)) x v a)
    | inr b ↦ set_var_more (args_uses kept_parts ss xs) _ (at_right (arg_uses kept_parts (Some s) x) _) v (args_set_vars_are ss (λ r k. n r (inr k)) xs v b)
  ]

  chunk_terms_are : (qs : List PredTree) (c : ChunkTree) (t : Term) → Among t (chunk_terms (read_chunk qs sc c)) → TermIs sc (chunk_uses kept_parts qs c) t
  chunk_terms_are qs (NamedCell i x) t (inl e) = (Named i, at_left (use_of Int i ∷ []) (int_uses x), e)
  chunk_terms_are qs (NamedCell i x) t (inr m) = term_more (int_uses x) (use_of Int i ∷ int_uses x) (at_right (use_of Int i ∷ []) (int_uses x)) t (one_term x t m)
  chunk_terms_are qs (TermCell a x) t (inl e) = (a, at_left (int_uses a) (int_uses x), e)
  chunk_terms_are qs (TermCell a x) t (inr m) = term_more (int_uses x) _ (at_right (int_uses a) (int_uses x)) t (one_term x t m)
  chunk_terms_are qs (BlockOf a p n) t m = one_term a t m
  chunk_terms_are qs (InstanceOf i xs) t m = args_terms_are (arg_sorts qs i xs) (arg_sorts_plain qs i xs) xs t m

  chunk_set_vars_are : (qs : List PredTree) (c : ChunkTree) (v : Var) → Among v (chunk_set_vars (read_chunk qs sc c)) → SetVarIs sc (chunk_uses kept_parts qs c) v
  chunk_set_vars_are qs (NamedCell i x) v m = absurd m
  chunk_set_vars_are qs (TermCell a x) v m = absurd m
  chunk_set_vars_are qs (BlockOf a p n) v m = absurd m
  chunk_set_vars_are qs (InstanceOf i xs) v m = args_set_vars_are (arg_sorts qs i xs) (arg_sorts_plain qs i xs) xs v m

  -- ---- bodies

  flat_within : {A : Type 0} (f : A → List Use) (x : A) (xs : List A) → Among x xs → Within (f x) (flat_map f xs)
  flat_within f x xs a u m = flat_in f u x xs a m

  module _ (qs : List PredTree) (b : BodyTree) where
    abbrev lit_part : List Use
    lit_part = flat_map (kept_lit false) (body_lits b)

    abbrev chunk_part : List Use
    chunk_part = flat_map (chunk_uses kept_parts qs) (in_kinds b.chunks)

    pub body_terms_are : (t : Term) → Among t (flat_map lit_terms (read_lits sc b)) ⊎ Among t (flat_map chunk_terms (read_chunks qs sc b)) → TermIs sc (kept_body qs b) t
    body_terms_are t (inl m) =
        let o = flat_out lit_terms t (read_lits sc b) m in
        let f = map_from (read_lit sc) o.0 (body_lits b) o.1 in
        term_more lit_part _ (at_left lit_part chunk_part) t
        (term_more (kept_lit false f.0) lit_part (flat_within (kept_lit false) f.0 (body_lits b) f.1) t (lit_terms_are false f.0 t (rw (← f.2) o.2)))
    body_terms_are t (inr m) =
        let o = flat_out chunk_terms t (read_chunks qs sc b) m in
        let f = map_from (read_chunk qs sc) o.0 (in_kinds b.chunks) o.1 in
        term_more chunk_part _ (at_right lit_part chunk_part) t
        (term_more (chunk_uses kept_parts qs f.0) chunk_part (flat_within (chunk_uses kept_parts qs) f.0 (in_kinds b.chunks) f.1) t (chunk_terms_are qs f.0 t (rw (← f.2) o.2)))

    pub body_set_vars_are : (v : Var) → Among v (flat_map lit_set_vars (read_lits sc b)) ⊎ Among v (flat_map chunk_set_vars (read_chunks qs sc b)) → SetVarIs sc (kept_body qs b) v
    body_set_vars_are v (inl m) =
        let o = flat_out lit_set_vars v (read_lits sc b) m in
        let f = map_from (read_lit sc) o.0 (body_lits b) o.1 in
        set_var_more lit_part _ (at_left lit_part chunk_part) v
        (set_var_more (kept_lit false f.0) lit_part (flat_within (kept_lit false) f.0 (body_lits b) f.1) v (lit_set_vars_are false f.0 v (rw (← f.2) o.2)))
    body_set_vars_are v (inr m) =
        let o = flat_out chunk_set_vars v (read_chunks qs sc b) m in
        let f = map_from (read_chunk qs sc) o.0 (in_kinds b.chunks) o.1 in
        set_var_more chunk_part _ (at_right lit_part chunk_part) v
        (set_var_more (chunk_uses kept_parts qs f.0) chunk_part (flat_within (chunk_uses kept_parts qs) f.0 (in_kinds b.chunks) f.1) v (chunk_set_vars_are qs f.0 v (rw (← f.2) o.2)))
