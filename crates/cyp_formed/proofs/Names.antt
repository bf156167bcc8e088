-- Each variable of what is read is that of a name in the order in which it is kept.
use Rattle.std.proofs.Common.{List, Some, [], false, filter, flat_map, inl, inr, map, not, refl, true, ◌++◌, ◌∷◌, ◌≡◌}
use Rattle.std.specs.Prelude.{Bool, cond, ℕ}
use Rattle.cyp_heap.specs.Chunks.{arg_vars}
use Rattle.cyp_heap.specs.Formed.{term_part_vars}
use Rattle.cyp_term.specs.Terms.{lit_vars, lits_vars, negated, set_vars, term_eq, term_vars, var_eq}
use Rattle.cyp_term.specs.declared.lit.Lit.{Lit}
use Rattle.cyp_term.specs.declared.lit.Lit.TheVariants.{Eq, Le, Lt, Member, Ne, NotMember, NotSame, NotSub, Same, Sub}
use Rattle.cyp_term.specs.declared.term.Sort.{Sort}
use Rattle.cyp_term.specs.declared.term.Sort.TheVariants.{Card, Int, Set}
use Rattle.cyp_term.specs.declared.term.Term.{Term}
use Rattle.cyp_term.specs.declared.term.Var.{Var}
use Rattle.cyp_term.proofs.Equality.{Decides-term_eq, Decides-var_eq}
use Rattle.cyp_term.proofs.Lists.{Among, Among-cases, Among-left, Among-right, filter_in, flat_in, flat_out, map_from}
use Rattle.cyp_term.proofs.Repeats.{without_repeats_out}
use Rattle.cyp_names.specs.Bodies.{body_lits, in_kinds, is_name, is_turned, kept_body, kept_lit, kept_parts, kept_set}
use Rattle.cyp_names.specs.ReadTerms.{Scope, compared, part_elems, part_vars, read_arg, read_args, read_chunk, read_chunks, read_int, read_lit, read_lits, read_set, read_union, use_var}
use Rattle.cyp_text.specs.LitTrees.{Comparing, Inside, LitTree, Negation, SameSets, SubSets}
use Rattle.cyp_text.specs.declared.tree.ArgTree.{ArgTree}
use Rattle.cyp_text.specs.declared.tree.ArgTree.TheVariants.{BracesArg, TermArg, UnionArg}
use Rattle.cyp_text.specs.declared.tree.BodyTree.{BodyTree}
use Rattle.cyp_text.specs.declared.tree.ChunkTree.{ChunkTree}
use Rattle.cyp_text.specs.declared.tree.ChunkTree.TheVariants.{BlockOf, InstanceOf, NamedCell, TermCell}
use Rattle.cyp_text.specs.declared.tree.Comparison.{Comparison}
use Rattle.cyp_text.specs.declared.tree.Comparison.TheVariants.{IsAbove, IsAtLeast, IsAtMost, IsBelow, IsEqual, IsUnequal}
use Rattle.cyp_text.specs.declared.tree.IntTree.{IntTree}
use Rattle.cyp_text.specs.declared.tree.IntTree.TheVariants.{MinusNum, NameMinus, NamePlus, Named, Num, NumPlus}
use Rattle.cyp_text.specs.declared.tree.PartTree.{PartTree}
use Rattle.cyp_text.specs.declared.tree.PartTree.TheVariants.{Braces, PartName}
use Rattle.cyp_text.specs.declared.tree.PredTree.{PredTree}
use Rattle.cyp_text.specs.declared.tree.SetTree.{SetTree}
use Rattle.cyp_names.specs.Uses.{Use, arg_sorts, arg_uses, args_uses, chunk_uses, int_uses, part_uses, set_parts, use_of}

-- the variable is that of one of these names
abbrev pub Comes : Scope → List Use → Var → Type 0
Comes sc us v = (u : Use) × Among u us × (v ≡ use_var sc u)

module _ (sc : Scope) (v : Var) where
  pub comes_left : (us ws : List Use) → Comes sc us v → Comes sc (us ++ ws) v
  comes_left us ws c = (c.0, Among-left c.0 us ws c.1, c.2)

  pub comes_right : (us ws : List Use) → Comes sc ws v → Comes sc (us ++ ws) v
  comes_right us ws c = (c.0, Among-right c.0 us ws c.1, c.2)

  -- those of two lists of variables from those of two lists of names
  pub comes_both : (vs ws : List Var) (us xs : List Use) → (Among v vs → Comes sc us v) → (Among v ws → Comes sc xs v) → Among v (vs ++ ws) → Comes sc (us ++ xs) v
  comes_both vs ws us xs f g h = elim (Among-cases v vs ws h) [ inl a ↦ comes_left us xs (f a) | inr b ↦ comes_right us xs (g b) ]

  comes_flat : {A : Type 0} (f : A → List Use) (x : A) (xs : List A) → Among x xs → Comes sc (f x) v → Comes sc (flat_map f xs) v
  comes_flat f x xs a c = (c.0, flat_in f c.0 x xs a c.1, c.2)

  -- each of a list of what is read
  pub comes_each : {A B : Type 0} (read : A → B) (vars : B → List Var) (uses : A → List Use) → ((x : A) → Among v (vars (read x)) → Comes sc (uses x) v)
      → (xs : List A) → Among v (flat_map vars (map read xs)) → Comes sc (flat_map uses xs) v
  comes_each {A} {B} read vars uses f xs h = by_out (flat_out vars v (map read xs) h)
    where
      by_out : (y : B) × Among y (map read xs) × Among v (vars y) → Comes sc (flat_map uses xs) v
      by_out o = by_from (map_from read o.0 xs o.1) o.2
        where
          by_from : (x : A) × Among x xs × (o.0 ≡ read x) → Among v (vars o.0) → Comes sc (flat_map uses xs) v
          by_from m w = comes_flat uses m.0 xs m.1 (f m.0 (rw (← m.2) w))

  -- ---- terms

  pub int_comes : (t : IntTree) → Among v (term_vars (read_int sc t)) → Comes sc (int_uses t) v
  int_comes (Num p n) h = absurd h
  int_comes (MinusNum p n) h = absurd h
  int_comes (Named i) (inl e) = (use_of Int i, inl refl, e)
  int_comes (NamePlus i n) (inl e) = (use_of Int i, inl refl, e)
  int_comes (NameMinus i n) (inl e) = (use_of Int i, inl refl, e)
  int_comes (NumPlus p n i) (inl e) = (use_of Int i, inl refl, e)
  int_comes (Named i) (inr h) = absurd h
  int_comes (NamePlus i n) (inr h) = absurd h
  int_comes (NameMinus i n) (inr h) = absurd h
  int_comes (NumPlus p n i) (inr h) = absurd h

  names_come : (us : List PartTree) → Among v (flat_map (part_vars sc) us) → Comes sc (kept_parts us) v
  names_come us h = by_out (flat_out (part_vars sc) v us h)
    where
      names : List PartTree
      names = filter is_name us

      by_out : (u : PartTree) × Among u us × Among v (part_vars sc u) → Comes sc (kept_parts us) v
      by_out o = by_part o.0 o.1 o.2
        where
          by_part : (u : PartTree) → Among u us → Among v (part_vars sc u) → Comes sc (kept_parts us) v
          by_part (Braces p ts) a w = absurd w
          by_part (PartName i) a (inr w) = absurd w
          by_part (PartName i) a (inl e) =
              comes_left (flat_map part_uses names) _ (comes_flat part_uses (PartName i) names (filter_in is_name (PartName i) us a refl) (use_of Set i, inl refl, e))

  elems_come : (us : List PartTree) → Among v (flat_map term_vars (flat_map (part_elems sc) us)) → Comes sc (kept_parts us) v
  elems_come us h = by_term (flat_out term_vars v (flat_map (part_elems sc) us) h)
    where
      rest : List PartTree
      rest = filter (λ u. not (is_name u)) us

      by_tree : (p : ℕ) (ts : List IntTree) → Among (Braces p ts) us → Among v (flat_map term_vars (map (read_int sc) ts)) → Comes sc (kept_parts us) v
      by_tree p ts a w =
          comes_right _ (flat_map part_uses rest) (comes_flat part_uses (Braces p ts) rest (filter_in (λ u. not (is_name u)) (Braces p ts) us a refl)
          (comes_each (read_int sc) term_vars int_uses int_comes ts w))

      by_part : (t : Term) (u : PartTree) → Among u us → Among t (part_elems sc u) → Among v (term_vars t) → Comes sc (kept_parts us) v
      by_part t (PartName i) a b w = absurd b
      by_part t (Braces p ts) a b w = by_tree p ts a (flat_in term_vars v t (map (read_int sc) ts) b w)

      by_term : (t : Term) × Among t (flat_map (part_elems sc) us) × Among v (term_vars t) → Comes sc (kept_parts us) v
      by_term o =
          let part : (u : PartTree) × Among u us × Among o.0 (part_elems sc u) = flat_out (part_elems sc) o.0 us o.1 in
          by_part o.0 part.0 part.1 part.2 o.2

  union_comes : (us : List PartTree) → Among v (set_vars (read_union sc us)) → Comes sc (kept_parts us) v
  union_comes us h = elim (Among-cases v (read_union sc us).vars _ h) [
    | inl a ↦ names_come us (without_repeats_out var_eq Decides-var_eq v (flat_map (part_vars sc) us) a)
    | inr b ↦ by_elem (flat_out term_vars v (read_union sc us).elems b)
  ]
    where
      by_elem : (t : Term) × Among t (read_union sc us).elems × Among v (term_vars t) → Comes sc (kept_parts us) v
      by_elem o =
          let first : Among o.0 (flat_map (part_elems sc) us) = without_repeats_out term_eq Decides-term_eq o.0 (flat_map (part_elems sc) us) o.1 in
          elems_come us (flat_in term_vars v o.0 (flat_map (part_elems sc) us) first o.2)

  set_comes : (u : SetTree) → Among v (set_vars (read_set sc u)) → Comes sc (kept_set u) v
  set_comes u h = union_comes (set_parts u) h

  -- ---- literals

  swapped : (vs ws : List Var) → Among v (vs ++ ws) → Among v (ws ++ vs)
  swapped vs ws h = elim (Among-cases v vs ws h) [ inl a ↦ Among-right v ws vs a | inr b ↦ Among-left v ws vs b ]

  in_negated : (l : Lit) → Among v (lit_vars (negated l)) → Among v (lit_vars l)
  in_negated (Le a b) h = swapped (term_vars b) (term_vars a) h
  in_negated (Lt a b) h = swapped (term_vars b) (term_vars a) h
  in_negated (Eq a b) h = h
  in_negated (Ne a b) h = h
  in_negated (Same a b) h = h
  in_negated (NotSame a b) h = h
  in_negated (Member a b) h = h
  in_negated (NotMember a b) h = h
  in_negated (Sub a b) h = h
  in_negated (NotSub a b) h = h

  in_compared : (c : Comparison) (a b : Term) → Among v (lit_vars (compared c a b)) → Among v (term_vars a ++ term_vars b)
  in_compared IsEqual a b h = h
  in_compared IsUnequal a b h = h
  in_compared IsAtMost a b h = h
  in_compared IsBelow a b h = h
  in_compared IsAtLeast a b h = swapped (term_vars b) (term_vars a) h
  in_compared IsAbove a b h = swapped (term_vars b) (term_vars a) h

  either_turn : (turned : Bool) (us ws : List Use) → Comes sc (us ++ ws) v → Comes sc (cond turned (ws ++ us) (us ++ ws)) v
  either_turn false us ws c = c
  either_turn true us ws c = elim (Among-cases c.0 us ws c.1) [ inl a ↦ comes_right ws us (c.0, a, c.2) | inr b ↦ comes_left ws us (c.0, b, c.2) ]

  pub lit_comes : (n : Bool) (l : LitTree) → Among v (lit_vars (read_lit sc l)) → Comes sc (kept_lit n l) v
  lit_comes n (Comparing a c b) h =
      either_turn (is_turned n c) (int_uses a) (int_uses b)
      (comes_both (term_vars (read_int sc a)) (term_vars (read_int sc b)) (int_uses a) (int_uses b) (int_comes a) (int_comes b)
      (in_compared c (read_int sc a) (read_int sc b) h))
  lit_comes n (SameSets a b) h = comes_both _ _ (kept_set a) (kept_set b) (set_comes a) (set_comes b) h
  lit_comes n (SubSets a b) h = comes_both _ _ (kept_set a) (kept_set b) (set_comes a) (set_comes b) h
  lit_comes n (Inside a b) h = comes_both _ _ (int_uses a) (kept_set b) (int_comes a) (set_comes b) h
  lit_comes n (Negation p l) h = lit_comes (not n) l (in_negated (read_lit sc l) h)

  -- ---- chunks

  arg_comes : (s : Sort) (x : ArgTree) → Among v (arg_vars (read_arg sc s x)) → Comes sc (arg_uses kept_parts (Some s) x) v
  arg_comes Set (TermArg (Named i)) (inl e) = (use_of Set i, inl refl, e)
  arg_comes Set (TermArg (Named i)) (inr h) = absurd h
  arg_comes Int (TermArg (Named i)) (inl e) = (use_of Int i, inl refl, e)
  arg_comes Int (TermArg (Named i)) (inr h) = absurd h
  arg_comes Card (TermArg (Named i)) (inl e) = (use_of Card i, inl refl, e)
  arg_comes Card (TermArg (Named i)) (inr h) = absurd h
  arg_comes s (TermArg t) h = int_comes t h
  arg_comes s (BracesArg p ts us) h = union_comes (Braces p ts ∷ us) h
  arg_comes s (UnionArg i u us) h = union_comes (PartName i ∷ u ∷ us) h

  pub args_come : (ss : List Sort) (xs : List ArgTree) → Among v (flat_map arg_vars (read_args sc ss xs)) → Comes sc (args_uses kept_parts ss xs) v
  args_come [] xs h = absurd h
  args_come (s ∷ ss) [] h = absurd h
  args_come (s ∷ ss) (x ∷ xs) h =
      comes_both (arg_vars (read_arg sc s x)) _ (arg_uses kept_parts (Some s) x) (args_uses kept_parts ss xs) (arg_comes s x) (args_come ss xs) h

  module _ (qs : List PredTree) where
    chunk_comes : (c : ChunkTree) → Among v (term_part_vars (read_chunk qs sc c)) → Comes sc (chunk_uses kept_parts qs c) v
    chunk_comes (NamedCell i t) h =
        comes_both (term_vars (read_int sc (Named i))) (term_vars (read_int sc t)) (use_of Int i ∷ []) (int_uses t) (int_comes (Named i)) (int_comes t) h
    chunk_comes (TermCell a t) h = comes_both _ _ (int_uses a) (int_uses t) (int_comes a) (int_comes t) h
    chunk_comes (BlockOf a p n) h = int_comes a h
    chunk_comes (InstanceOf i xs) h = args_come (arg_sorts qs i xs) xs h

    -- a variable of a body's literals, and one of its chunks
    pub lits_come : (b : BodyTree) → Among v (lits_vars (read_lits sc b)) → Comes sc (kept_body qs b) v
    lits_come b h = comes_left _ _ (comes_each (read_lit sc) lit_vars (kept_lit false) (lit_comes false) (body_lits b) h)

    pub chunks_come : (b : BodyTree) → Among v (flat_map term_part_vars (read_chunks qs sc b)) → Comes sc (kept_body qs b) v
    chunks_come b h = comes_right _ _ (comes_each (read_chunk qs sc) term_part_vars (chunk_uses kept_parts qs) chunk_comes (in_kinds b.chunks) h)
