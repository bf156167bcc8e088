-- The variable of each name that is kept stands in what is read.
use Rattle.std.proofs.Common.{List, Some, [], ap, arith, cond, false, filter, flat_map, inl, inr, length, not, subst, sym, true, ◌++◌, ◌∷◌, ◌≡◌, ◌⊎◌}
use Rattle.std.specs.Prelude.{Bool}
use Rattle.cyp_lex.specs.declared.ident.Ident.{Ident}
use Rattle.cyp_heap.specs.Chunks.{arg_vars}
use Rattle.cyp_heap.specs.Formed.{term_part_vars}
use Rattle.cyp_term.specs.Terms.{lit_vars, lits_vars, negated, set_vars, term_eq, term_vars, var_eq, without_repeats}
use Rattle.cyp_term.specs.declared.lit.Lit.{Lit}
use Rattle.cyp_term.specs.declared.lit.Lit.TheVariants.{Eq, Le, Lt, Member, Ne, NotMember, NotSame, NotSub, Same, Sub}
use Rattle.cyp_term.specs.declared.term.Sort.{Sort}
use Rattle.cyp_term.specs.declared.term.Sort.TheVariants.{Card, Int, Set}
use Rattle.cyp_term.specs.declared.term.Term.{Term}
use Rattle.cyp_term.specs.declared.term.Var.{Var}
use Rattle.cyp_term.proofs.Equality.{Decides-term_eq, Decides-var_eq}
use Rattle.cyp_term.proofs.Lists.{Among, Among-cases, Among-left, Among-map, Among-right, filter_out, flat_in, flat_out}
use Rattle.cyp_term.proofs.Repeats.{without_repeats_in}
use Rattle.cyp_names.specs.Bodies.{body_lits, in_kinds, is_name, is_turned, kept_body, kept_lit, kept_parts, kept_set}
use Rattle.cyp_names.specs.NameFaults.{chunk_faults}
use Rattle.cyp_names.specs.ReadTerms.{Scope, compared, part_elems, part_vars, read_arg, read_args, read_chunk, read_chunks, read_int, read_lit, read_lits, read_set, read_union, use_var}
use Rattle.cyp_text.specs.LitTrees.{Comparing, Inside, LitTree, Negation, SameSets, SubSets}
use Rattle.cyp_text.specs.declared.tree.ArgTree.{ArgTree}
use Rattle.cyp_text.specs.declared.tree.ArgTree.TheVariants.{BracesArg, TermArg, UnionArg}
use Rattle.cyp_text.specs.declared.tree.BodyTree.{BodyTree}
use Rattle.cyp_text.specs.declared.tree.ChunkTree.{ChunkTree}
use Rattle.cyp_text.specs.declared.tree.ChunkTree.TheVariants.{BlockOf, InstanceOf, NamedCell, TermCell}
use Rattle.cyp_text.specs.declared.tree.Comparison.{Comparison}
use Rattle.cyp_text.specs.declared.tree.Comparison.TheVariants.{IsAbove, IsAtLeast, IsAtMost, IsBelow, IsEqual, IsUnequal}
use Rattle.cyp_text.specs.declared.tree.IntTree.{IntTree}
use Rattle.cyp_text.specs.declared.tree.IntTree.TheVariants.{MinusNum, NameMinus, NamePlus, Named, Num, NumPlus}
use Rattle.cyp_text.specs.declared.tree.PartTree.{PartTree}
use Rattle.cyp_text.specs.declared.tree.PartTree.TheVariants.{Braces, PartName}
use Rattle.cyp_text.specs.declared.tree.PredTree.{PredTree}
use Rattle.cyp_text.specs.declared.tree.SetTree.{SetTree}
use Rattle.cyp_names.specs.Uses.{Use, arg_uses, args_uses, chunk_uses, int_uses, part_uses, set_parts, use_of}
use Rattle.cyp_formed.proofs.FormedInstances.{kinds_among}
use Rattle.cyp_formed.proofs.OfPreds.{OfPred, as_many, of_pred, sorts, sorts_are}

module _ (sc : Scope) (u : Use) where
  -- its variable
  abbrev v : Var
  v = use_var sc u

  int_goes : (t : IntTree) → Among u (int_uses t) → Among v (term_vars (read_int sc t))
  int_goes (Num p n) m = absurd m
  int_goes (MinusNum p n) m = absurd m
  int_goes (Named i) (inl e) = inl (ap (use_var sc) e)
  int_goes (NamePlus i n) (inl e) = inl (ap (use_var sc) e)
  int_goes (NameMinus i n) (inl e) = inl (ap (use_var sc) e)
  int_goes (NumPlus p n i) (inl e) = inl (ap (use_var sc) e)
  int_goes (Named i) (inr m) = absurd m
  int_goes (NamePlus i n) (inr m) = absurd m
  int_goes (NameMinus i n) (inr m) = absurd m
  int_goes (NumPlus p n i) (inr m) = absurd m

  -- ---- unions

  name_goes : (us : List PartTree) (w : PartTree) → Among w us → is_name w ≡ true → Among u (part_uses w) → Among v (flat_map (part_vars sc) us)
  name_goes us (PartName i) m e (inl k) = flat_in (part_vars sc) v (PartName i) us m (inl (ap (use_var sc) k))
  name_goes us (PartName i) m e (inr k) = absurd k
  name_goes us (Braces p ts) m e k = absurd cc

  elem_goes : (us : List PartTree) (w : PartTree) → Among w us → not (is_name w) ≡ true → Among u (part_uses w) → (t : Term) × Among t (flat_map (part_elems sc) us) × Among v (term_vars t)
  elem_goes us (PartName i) m e k = absurd cc
  elem_goes us (Braces p ts) m e k =
      let o = flat_out int_uses u ts k in
      (read_int sc o.0, flat_in (part_elems sc) (read_int sc o.0) (Braces p ts) us m (Among-map (read_int sc) o.0 ts o.1), int_goes o.0 o.2)

  union_goes : (us : List PartTree) → Among u (kept_parts us) → Among v (set_vars (read_union sc us))
  union_goes us m = by_part (Among-cases u (flat_map part_uses (filter is_name us)) _ m)
    where
      vars : List Var
      vars = flat_map (part_vars sc) us

      terms : List Term
      terms = flat_map (part_elems sc) us

      by_name : (w : PartTree) × Among w (filter is_name us) × Among u (part_uses w) → Among v (set_vars (read_union sc us))
      by_name o =
          let f = filter_out is_name o.0 us o.1 in
          Among-left v (without_repeats var_eq vars) _ (without_repeats_in var_eq Decides-var_eq v vars (name_goes us o.0 f.0 f.1 o.2))

      by_elem : (w : PartTree) × Among w (filter (λ x. not (is_name x)) us) × Among u (part_uses w) → Among v (set_vars (read_union sc us))
      by_elem o =
          let f = filter_out (λ x. not (is_name x)) o.0 us o.1 in
          let e = elem_goes us o.0 f.0 f.1 o.2 in
          Among-right v (without_repeats var_eq vars) _ (flat_in term_vars v e.0 (without_repeats term_eq terms) (without_repeats_in term_eq Decides-term_eq e.0 terms e.1) e.2)

      by_part : Among u (flat_map part_uses (filter is_name us)) ⊎ Among u (flat_map part_uses (filter (λ x. not (is_name x)) us)) → Among v (set_vars (read_union sc us))
      by_part (inl a) = by_name (flat_out part_uses u (filter is_name us) a)
      by_part (inr b) = by_elem (flat_out part_uses u (filter (λ x. not (is_name x)) us) b)

  set_goes : (w : SetTree) → Among u (kept_set w) → Among v (set_vars (read_set sc w))
  set_goes w m = union_goes (set_parts w) m

  -- ---- literals

  swapped : (vs ws : List Var) → Among v (vs ++ ws) → Among v (ws ++ vs)
  swapped vs ws h = elim (Among-cases v vs ws h) [ inl a ↦ Among-right v ws vs a | inr b ↦ Among-left v ws vs b ]

  to_negated : (l : Lit) → Among v (lit_vars l) → Among v (lit_vars (negated l))
  to_negated (Le a b) h = swapped (term_vars a) (term_vars b) h
  to_negated (Lt a b) h = swapped (term_vars a) (term_vars b) h
  to_negated (Eq a b) h = h
  to_negated (Ne a b) h = h
  to_negated (Same a b) h = h
  to_negated (NotSame a b) h = h
  to_negated (Member a b) h = h
  to_negated (NotMember a b) h = h
  to_negated (Sub a b) h = h
  to_negated (NotSub a b) h = h

  to_compared : (c : Comparison) (a b : Term) → Among v (term_vars a ++ term_vars b) → Among v (lit_vars (compared c a b))
  to_compared IsEqual a b h = h
  to_compared IsUnequal a b h = h
  to_compared IsAtMost a b h = h
  to_compared IsBelow a b h = h
  to_compared IsAtLeast a b h = swapped (term_vars a) (term_vars b) h
  to_compared IsAbove a b h = swapped (term_vars a) (term_vars b) h

  both_go : (us ws : List Use) (vs xs : List Var) → (Among u us → Among v vs) → (Among u ws → Among v xs) → Among u (us ++ ws) → Among v (vs ++ xs)
  both_go us ws vs xs f g m = elim (Among-cases u us ws m) [ inl a ↦ Among-left v vs xs (f a) | inr b ↦ Among-right v vs xs (g b) ]

  unturned : (t : Bool) (us ws : List Use) → Among u (cond t (ws ++ us) (us ++ ws)) → Among u (us ++ ws)
  unturned false us ws m = m
  unturned true us ws m = elim (Among-cases u ws us m) [ inl a ↦ Among-right u us ws a | inr b ↦ Among-left u us ws b ]

  lit_goes : (n : Bool) (l : LitTree) → Among u (kept_lit n l) → Among v (lit_vars (read_lit sc l))
  lit_goes n (Comparing a c b) m = to_compared c (read_int sc a) (read_int sc b) (both_go (int_uses a) (int_uses b) _ _ (int_goes a) (int_goes b) (unturned (is_turned n c) (int_uses a) (int_uses b) m))
  lit_goes n (SameSets a b) m = both_go (kept_set a) (kept_set b) _ _ (set_goes a) (set_goes b) m
  lit_goes n (SubSets a b) m = both_go (kept_set a) (kept_set b) _ _ (set_goes a) (set_goes b) m
  lit_goes n (Inside a b) m = both_go (int_uses a) (kept_set b) _ _ (int_goes a) (set_goes b) m
  lit_goes n (Negation p l) m = to_negated (read_lit sc l) (lit_goes (not n) l m)

  -- ---- chunks

  arg_goes : (s : Sort) (x : ArgTree) → Among u (arg_uses kept_parts (Some s) x) → Among v (arg_vars (read_arg sc s x))
  arg_goes Set (TermArg (Named i)) (inl e) = inl (ap (use_var sc) e)
  arg_goes Set (TermArg (Named i)) (inr k) = absurd k
  arg_goes Int (TermArg (Named i)) (inl e) = inl (ap (use_var sc) e)
  arg_goes Int (TermArg (Named i)) (inr k) = absurd k
  arg_goes Card (TermArg (Named i)) (inl e) = inl (ap (use_var sc) e)
  arg_goes Card (TermArg (Named i)) (inr k) = absurd k
  arg_goes s (TermArg t) m = int_goes t m
  arg_goes s (BracesArg p ts us) m = union_goes (Braces p ts ∷ us) m
  arg_goes s (UnionArg i w us) m = union_goes (PartName i ∷ w ∷ us) m

  args_go : (ss : List Sort) (xs : List ArgTree) → length ss ≡ length xs → Among u (args_uses kept_parts ss xs) → Among v (flat_map arg_vars (read_args sc ss xs))
  args_go [] [] e m = absurd m
  args_go [] (x ∷ xs) e m = absurd (differ e)
    where
      differ : 0 ≡ length (x ∷ xs) → ⊥
      differ k = omega (arith, k)
  args_go (s ∷ ss) [] e m = absurd m
  args_go (s ∷ ss) (x ∷ xs) e m =
      let lengths : length ss ≡ length xs = omega (arith, e) in
      both_go (arg_uses kept_parts (Some s) x) (args_uses kept_parts ss xs) (arg_vars (read_arg sc s x)) (flat_map arg_vars (read_args sc ss xs)) (arg_goes s x) (args_go ss xs lengths) m

  module _ (qs : List PredTree) where
    inst_goes : (i : Ident) (xs : List ArgTree) → OfPred qs i xs → Among u (chunk_uses kept_parts qs (InstanceOf i xs)) → Among v (term_part_vars (read_chunk qs sc (InstanceOf i xs)))
    inst_goes i xs of m =
        subst (λ (ss : List Sort). Among v (flat_map arg_vars (read_args sc ss xs))) (sym (sorts_are qs i xs of))
        (args_go (sorts qs i xs of) xs (as_many qs i xs of) (subst (λ (ss : List Sort). Among u (args_uses kept_parts ss xs)) (sorts_are qs i xs of) m))

    chunk_goes : (c : ChunkTree) → chunk_faults qs c ≡ [] → Among u (chunk_uses kept_parts qs c) → Among v (term_part_vars (read_chunk qs sc c))
    chunk_goes (NamedCell i t) e m = both_go (use_of Int i ∷ []) (int_uses t) (term_vars (read_int sc (Named i))) (term_vars (read_int sc t)) (int_goes (Named i)) (int_goes t) m
    chunk_goes (TermCell a t) e m = both_go (int_uses a) (int_uses t) _ _ (int_goes a) (int_goes t) m
    chunk_goes (BlockOf a p n) e m = int_goes a m
    chunk_goes (InstanceOf i xs) e m = inst_goes i xs (of_pred qs i xs e) m

    -- each name of a body stands in its literals or in its chunks
    pub body_goes : (b : BodyTree) → ((c : ChunkTree) → Among c b.chunks → chunk_faults qs c ≡ []) → Among u (kept_body qs b) → Among v (lits_vars (read_lits sc b)) ⊎ Among v (flat_map term_part_vars (read_chunks qs sc b))
    body_goes b right m = by_part (Among-cases u (flat_map (kept_lit false) (body_lits b)) (flat_map (chunk_uses kept_parts qs) (in_kinds b.chunks)) m)
      where
        by_part : Among u (flat_map (kept_lit false) (body_lits b)) ⊎ Among u (flat_map (chunk_uses kept_parts qs) (in_kinds b.chunks)) → Among v (lits_vars (read_lits sc b)) ⊎ Among v (flat_map term_part_vars (read_chunks qs sc b))
        by_part (inl a) =
            let o = flat_out (kept_lit false) u (body_lits b) a in
            inl (flat_in lit_vars v (read_lit sc o.0) (read_lits sc b) (Among-map (read_lit sc) o.0 (body_lits b) o.1) (lit_goes false o.0 o.2))
        by_part (inr k) =
            let o = flat_out (chunk_uses kept_parts qs) u (in_kinds b.chunks) k in
            inr (flat_in term_part_vars v (read_chunk qs sc o.0) (read_chunks qs sc b) (Among-map (read_chunk qs sc) o.0 (in_kinds b.chunks) o.1) (chunk_goes o.0 (right o.0 (kinds_among b.chunks o.0 o.1)) o.2))
