-- Printed terms, literals and arguments are read as what they were, where their variables' names are read back.
use Rattle.std.proofs.Common.{List, None, Option, Some, [], ap, append-nil, arith, flat_map, inl, inr, map, refl, sym, true, ℤ, ◌++◌, ◌∙◌, ◌∷◌, ◌≡◌, ◌&&◌, suc, zero}
use Rattle.std.specs.Prelude.{Bool, negsuc, pos, ◌+ℤ◌}
use Rattle.std.proofs.lemmas.Bool.{and_parts}
use Rattle.std.proofs.lemmas.Int.{ints}
use Rattle.cyp_goal.proofs.AllNew.{without_repeats-all_new}
use Rattle.cyp_goal.specs.Raw.{lit_once, set_once}
use Rattle.cyp_heap.specs.Chunks.{arg_vars}
use Rattle.cyp_heap.specs.Formed.{arg_sort, sorts_fit}
use Rattle.cyp_heap.specs.declared.chunk.Arg.{Arg}
use Rattle.cyp_heap.specs.declared.chunk.Arg.TheVariants.{Int as IntArg, Set as SetArg}
use Rattle.cyp_term.specs.Terms.{lit_vars, set_vars, sort_eq, term_eq, term_vars, var_eq, var_term, without_repeats}
use Rattle.cyp_term.specs.declared.lit.Lit.{Lit}
use Rattle.cyp_term.specs.declared.lit.Lit.TheVariants.{Eq, Le, Lt, Member, Ne, NotMember, NotSame, NotSub, Same, Sub}
use Rattle.cyp_term.specs.declared.lit.SetTerm.{SetTerm}
use Rattle.cyp_term.specs.declared.term.Sort.{Sort}
use Rattle.cyp_term.specs.declared.term.Sort.TheVariants.{Set}
use Rattle.cyp_term.specs.declared.term.Term.{Term}
use Rattle.cyp_term.specs.declared.term.Var.{Var}
use Rattle.cyp_term.proofs.Equality.{Decides-sort_eq}
use Rattle.cyp_term.proofs.Lists.{Among, Among-left, Among-right}
use Rattle.cyp_writing.specs.PrintedTrees.{arg_tree, braces_of, lit_tree, parts_of, set_tree, term_tree, term_tree_by, union_arg, var_ident}
use Rattle.cyp_names.specs.ReadTerms.{Scope, part_elems, part_vars, read_arg, read_args, read_int, read_lit, read_set, read_union, var_named}
use Rattle.cyp_text.specs.declared.tree.PartTree.{PartTree}
use Rattle.cyp_text.specs.declared.tree.PartTree.TheVariants.{PartName}
use Rattle.cyp_printed.proofs.PrintedUses.{parts_back}

-- the name by which the variable is printed is read as it
abbrev pub IsBack : Scope → Var → Type 0
IsBack sc v = var_named sc (var_ident v).text ≡ v

-- each of these variables is read back
abbrev pub AreBack : Scope → List Var → Type 0
AreBack sc vs = (v : Var) → Among v vs → IsBack sc v

-- no part of the argument stands twice in it
abbrev pub arg_once : Arg → Bool
arg_once (IntArg t) = true
arg_once (SetArg u) = set_once u

pub sum_is : (z : ℤ) → pos 0 +ℤ z ≡ z
sum_is z = omega (arith, ints)

module _ (sc : Scope) where
  based_back : (v w : Var) (z : ℤ) → var_named sc (var_ident v).text ≡ w → read_int sc (term_tree_by (Some v) z) ≡ record { base = Some w; offset = z }
  based_back v w (pos zero) e = ap (λ (x : Var). var_term x) e
  based_back v w (pos (suc n)) e = λ i. record { base = Some (e i); offset = sum_is (pos (suc n)) i }
  based_back v w (negsuc n) e = λ i. record { base = Some (e i); offset = sum_is (negsuc n) i }

  term_by : (base : Option Var) (z : ℤ) → AreBack sc (term_vars (record { base = base; offset = z })) → read_int sc (term_tree_by base z) ≡ record { base = base; offset = z }
  term_by None (pos n) h = refl
  term_by None (negsuc n) h = refl
  term_by (Some v) z h = based_back v v z (h v (inl refl))

  pub term_back : (t : Term) → AreBack sc (term_vars t) → read_int sc (term_tree t) ≡ t
  term_back t h = term_by t.base t.offset h

  -- ---- unions

  names_back : (vs : List Var) (us : List PartTree) → AreBack sc vs → flat_map (part_vars sc) (map (λ v. PartName (var_ident v)) vs ++ us) ≡ vs ++ flat_map (part_vars sc) us
  names_back [] us h = refl
  names_back (v ∷ vs) us h = λ i. h v (inl refl) i ∷ names_back vs us (λ w m. h w (inr m)) i

  no_elems : (vs : List Var) (us : List PartTree) → flat_map (part_elems sc) (map (λ v. PartName (var_ident v)) vs ++ us) ≡ flat_map (part_elems sc) us
  no_elems [] us = refl
  no_elems (v ∷ vs) us = no_elems vs us

  braces_no_vars : (vs : List Var) (ts : List Term) → flat_map (part_vars sc) (braces_of vs ts) ≡ []
  braces_no_vars [] ts = refl
  braces_no_vars (v ∷ vs) [] = refl
  braces_no_vars (v ∷ vs) (t ∷ ts) = refl

  terms_back : (ts : List Term) → AreBack sc (flat_map term_vars ts) → map (read_int sc) (map term_tree ts) ≡ ts
  terms_back [] h = refl
  terms_back (t ∷ ts) h = λ i. term_back t (λ v m. h v (Among-left v (term_vars t) (flat_map term_vars ts) m)) i ∷ terms_back ts (λ v m. h v (Among-right v (term_vars t) (flat_map term_vars ts) m)) i

  braces_back : (vs : List Var) (ts : List Term) → AreBack sc (flat_map term_vars ts) → flat_map (part_elems sc) (braces_of vs ts) ≡ ts
  braces_back [] ts h = append-nil (map (read_int sc) (map term_tree ts)) ∙ terms_back ts h
  braces_back (v ∷ vs) [] h = refl
  braces_back (v ∷ vs) (t ∷ ts) h = append-nil (map (read_int sc) (map term_tree (t ∷ ts))) ∙ terms_back (t ∷ ts) h

  pub union_back : (u : SetTerm) → AreBack sc (set_vars u) → set_once u ≡ true → read_union sc (parts_of u) ≡ u
  union_back u h o =
      let once = and_parts _ _ o in
      let vars : flat_map (part_vars sc) (parts_of u) ≡ u.vars =
      names_back u.vars (braces_of u.vars u.elems) (λ v m. h v (Among-left v u.vars (flat_map term_vars u.elems) m))
      ∙ ap (λ (vs : List Var). u.vars ++ vs) (braces_no_vars u.vars u.elems) ∙ append-nil u.vars in
      let elems : flat_map (part_elems sc) (parts_of u) ≡ u.elems =
      no_elems u.vars (braces_of u.vars u.elems) ∙ braces_back u.vars u.elems (λ v m. h v (Among-right v u.vars (flat_map term_vars u.elems) m)) in
      let vars_once : without_repeats var_eq (flat_map (part_vars sc) (parts_of u)) ≡ u.vars = ap (λ (vs : List Var). without_repeats var_eq vs) vars ∙ without_repeats-all_new var_eq u.vars once.0 in
      let elems_once : without_repeats term_eq (flat_map (part_elems sc) (parts_of u)) ≡ u.elems = ap (λ (ts : List Term). without_repeats term_eq ts) elems ∙ without_repeats-all_new term_eq u.elems once.1 in
      λ i. record { vars = vars_once i; elems = elems_once i }

  set_back : (u : SetTerm) → AreBack sc (set_vars u) → set_once u ≡ true → read_set sc (set_tree u) ≡ u
  set_back u h o = ap (λ (us : List PartTree). read_union sc us) (parts_back u) ∙ union_back u h o

  -- ---- literals

  left_back : (vs ws : List Var) → AreBack sc (vs ++ ws) → AreBack sc vs
  left_back vs ws h v m = h v (Among-left v vs ws m)

  right_back : (vs ws : List Var) → AreBack sc (vs ++ ws) → AreBack sc ws
  right_back vs ws h v m = h v (Among-right v vs ws m)

  two_terms : (f : Term → Term → Lit) (a b : Term) → AreBack sc (term_vars a ++ term_vars b) → f (read_int sc (term_tree a)) (read_int sc (term_tree b)) ≡ f a b
  two_terms f a b h = λ i. f (term_back a (left_back (term_vars a) (term_vars b) h) i) (term_back b (right_back (term_vars a) (term_vars b) h) i)

  two_sets : (f : SetTerm → SetTerm → Lit) (a b : SetTerm) → AreBack sc (set_vars a ++ set_vars b) → (set_once a && set_once b) ≡ true → f (read_set sc (set_tree a)) (read_set sc (set_tree b)) ≡ f a b
  two_sets f a b h o =
      let once = and_parts (set_once a) (set_once b) o in
      λ i. f (set_back a (left_back (set_vars a) (set_vars b) h) once.0 i) (set_back b (right_back (set_vars a) (set_vars b) h) once.1 i)

  term_and_set : (f : Term → SetTerm → Lit) (a : Term) (b : SetTerm) → AreBack sc (term_vars a ++ set_vars b) → set_once b ≡ true → f (read_int sc (term_tree a)) (read_set sc (set_tree b)) ≡ f a b
  term_and_set f a b h o = λ i. f (term_back a (left_back (term_vars a) (set_vars b) h) i) (set_back b (right_back (term_vars a) (set_vars b) h) o i)

  pub lit_back : (l : Lit) → AreBack sc (lit_vars l) → lit_once l ≡ true → read_lit sc (lit_tree l) ≡ l
  lit_back (Eq a b) h o = two_terms Eq a b h
  lit_back (Ne a b) h o = two_terms Ne a b h
  lit_back (Le a b) h o = two_terms Le a b h
  lit_back (Lt a b) h o = two_terms Lt a b h
  lit_back (Same a b) h o = two_sets Same a b h o
  lit_back (NotSame a b) h o = two_sets NotSame a b h o
  lit_back (Member a b) h o = term_and_set Member a b h o
  lit_back (NotMember a b) h o = term_and_set NotMember a b h o
  lit_back (Sub a b) h o = two_sets Sub a b h o
  lit_back (NotSub a b) h o = two_sets NotSub a b h o

  -- ---- arguments

  set_arg_back : (u : SetTerm) → AreBack sc (set_vars u) → set_once u ≡ true → read_arg sc Set (union_arg (parts_of u)) ≡ SetArg u
  set_arg_back u h o = by_parts u.vars u.elems h (union_back u h o)
    where
      by_parts : (vs : List Var) (ts : List Term) → AreBack sc (vs ++ flat_map term_vars ts) → read_union sc (parts_of (record { vars = vs; elems = ts })) ≡ record { vars = vs; elems = ts }
          → read_arg sc Set (union_arg (map (λ v. PartName (var_ident v)) vs ++ braces_of vs ts)) ≡ SetArg (record { vars = vs; elems = ts })
      by_parts [] ts h e = ap (λ (w : SetTerm). SetArg w) e
      by_parts (v ∷ []) [] h e = ap (λ (w : Var). SetArg (record { vars = w ∷ []; elems = [] })) (h v (inl refl))
      by_parts (v ∷ []) (t ∷ ts) h e = ap (λ (w : SetTerm). SetArg w) e
      by_parts (v ∷ w ∷ vs) [] h e = ap (λ (w : SetTerm). SetArg w) e
      by_parts (v ∷ w ∷ vs) (t ∷ ts) h e = ap (λ (w : SetTerm). SetArg w) e

  arg_back : (a : Arg) → AreBack sc (arg_vars a) → arg_once a ≡ true → read_arg sc (arg_sort a) (arg_tree a) ≡ a
  arg_back (IntArg t) h o = ap (λ (x : Term). IntArg x) (term_back t h)
  arg_back (SetArg u) h o = set_arg_back u h o

  pub args_back : (xs : List Arg) (ss : List Sort) → sorts_fit xs ss ≡ true → AreBack sc (flat_map arg_vars xs) → ((a : Arg) → Among a xs → arg_once a ≡ true) → read_args sc ss (map arg_tree xs) ≡ xs
  args_back [] [] f h o = refl
  args_back [] (s ∷ ss) f h o = absurd cc
  args_back (a ∷ xs) [] f h o = absurd cc
  args_back (a ∷ xs) (s ∷ ss) f h o =
      let fit = and_parts (sort_eq (arg_sort a) s) (sorts_fit xs ss) f in
      let sort_is : s ≡ arg_sort a = sym ((Decides-sort_eq (arg_sort a) s).0 fit.0) in
      let first : read_arg sc s (arg_tree a) ≡ a = ap (λ (r : Sort). read_arg sc r (arg_tree a)) sort_is ∙ arg_back a (λ v m. h v (Among-left v (arg_vars a) (flat_map arg_vars xs) m)) (o a (inl refl)) in
      let others : read_args sc ss (map arg_tree xs) ≡ xs = args_back xs ss fit.1 (λ v m. h v (Among-right v (arg_vars a) (flat_map arg_vars xs) m)) (λ b m. o b (inr m)) in
      λ i. first i ∷ others i
