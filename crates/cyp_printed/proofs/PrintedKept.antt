-- The names of what is read and printed are the names that were kept, printed: with some later repeats left out.
use Rattle.std.proofs.Common.{List, Some, [], ap, arith, cond, false, filter, flat_map, inl, inr, length, map, not, refl, sym, true, ◌++◌, ◌∙◌, ◌∷◌, ◌≡◌, ◌≢◌}
use Rattle.std.specs.Prelude.{Bool, neg_ℤ, pos, ◌+ℤ◌}
use Rattle.cyp_term.specs.Terms.{negated, term_eq, var_eq, without_repeats}
use Rattle.cyp_term.specs.declared.lit.Lit.{Lit}
use Rattle.cyp_term.specs.declared.lit.Lit.TheVariants.{Eq}
use Rattle.cyp_term.specs.declared.term.Sort.{Sort}
use Rattle.cyp_term.specs.declared.term.Sort.TheVariants.{Card, Int, Set}
use Rattle.cyp_term.specs.declared.term.Term.{Term}
use Rattle.cyp_term.specs.declared.term.Var.{Var}
use Rattle.cyp_term.proofs.Equality.{Decides-term_eq, Decides-var_eq}
use Rattle.cyp_term.proofs.Lists.{Among}
use Rattle.cyp_names.specs.Bodies.{is_name, is_turned, kept_lit, kept_parts, kept_set}
use Rattle.cyp_writing.specs.PrintedTrees.{var_ident}
use Rattle.cyp_names.specs.ReadTerms.{Scope, compared, part_elems, part_vars, read_arg, read_args, read_int, read_lit, read_set, read_union, var_named}
use Rattle.cyp_text.specs.LitTrees.{Comparing, Inside, LitTree, Negation, SameSets, SubSets}
use Rattle.cyp_text.specs.declared.tree.ArgTree.{ArgTree}
use Rattle.cyp_text.specs.declared.tree.ArgTree.TheVariants.{BracesArg, TermArg, UnionArg}
use Rattle.cyp_text.specs.declared.tree.Comparison.{Comparison}
use Rattle.cyp_text.specs.declared.tree.Comparison.TheVariants.{IsEqual}
use Rattle.cyp_text.specs.declared.tree.IntTree.{IntTree}
use Rattle.cyp_text.specs.declared.tree.IntTree.TheVariants.{MinusNum, NameMinus, NamePlus, Named, Num, NumPlus}
use Rattle.cyp_text.specs.declared.tree.PartTree.{PartTree}
use Rattle.cyp_text.specs.declared.tree.PartTree.TheVariants.{Braces, PartName}
use Rattle.cyp_text.specs.declared.tree.SetTree.{SetTree}
use Rattle.cyp_names.specs.Uses.{Use, arg_uses, args_uses, int_uses, part_uses, set_parts, use_of}
use Rattle.cyp_printed.proofs.PrintedFirsts.{Firsts, firsts_mapped, firsts_once, firsts_same, firsts_then}
use Rattle.cyp_formed.proofs.Maps.{both_mapped}
use Rattle.cyp_printed.proofs.PrintedNames.{printed_use}
use Rattle.cyp_printed.proofs.PrintedUses.{based_uses, number_uses, printed_arg_uses, printed_lit_uses, set_use, term_uses, union_uses}

-- a literal, or its negation
abbrev pub under : Bool → Lit → Lit
under false l = l
under true l = negated l

twice : (l : Lit) → negated (negated l) ≡ l
twice (Eq a b) = refl
twice _ = refl

pub under_not : (n : Bool) (l : Lit) → under n (negated l) ≡ under (not n) l
under_not false l = refl
under_not true l = twice l

compared_uses : (n : Bool) (c : Comparison) (a b : Term) → printed_lit_uses (under n (compared c a b)) ≡ cond (is_turned n c) (term_uses b ++ term_uses a) (term_uses a ++ term_uses b)
compared_uses false IsEqual a b = refl
compared_uses true IsEqual a b = refl
compared_uses false _ a b = refl
compared_uses true _ a b = refl

module _ (sc : Scope) where
  pub int_kept : (t : IntTree) → term_uses (read_int sc t) ≡ map (printed_use sc) (int_uses t)
  int_kept (Num p n) = refl
  int_kept (MinusNum p n) = number_uses (neg_ℤ (pos n))
  int_kept (Named i) = refl
  int_kept (NamePlus i n) = based_uses (var_named sc i.text) (pos 0 +ℤ pos n)
  int_kept (NameMinus i n) = based_uses (var_named sc i.text) (pos 0 +ℤ neg_ℤ (pos n))
  int_kept (NumPlus p n i) = based_uses (var_named sc i.text) (pos 0 +ℤ pos n)

  -- ---- unions

  ints_kept : (ts : List IntTree) → flat_map term_uses (map (read_int sc) ts) ≡ map (printed_use sc) (flat_map int_uses ts)
  ints_kept [] = refl
  ints_kept (t ∷ ts) = both_mapped (printed_use sc) (int_uses t) (flat_map int_uses ts) _ _ (int_kept t) (ints_kept ts)

  vars_kept : (us : List PartTree) → map set_use (flat_map (part_vars sc) us) ≡ map (printed_use sc) (flat_map part_uses (filter is_name us))
  vars_kept [] = refl
  vars_kept (PartName i ∷ us) = ap (λ (ws : List Use). use_of Set (var_ident (var_named sc i.text)) ∷ ws) (vars_kept us)
  vars_kept (Braces p ts ∷ us) = vars_kept us

  elems_split : (xs ys : List Term) → flat_map term_uses (xs ++ ys) ≡ flat_map term_uses xs ++ flat_map term_uses ys
  elems_split [] ys = refl
  elems_split (x ∷ xs) ys = ap (λ (ws : List Use). term_uses x ++ ws) (elems_split xs ys) ∙ sym (assoc (term_uses x) (flat_map term_uses xs) (flat_map term_uses ys))
    where
      assoc : (as' bs cs : List Use) → (as' ++ bs) ++ cs ≡ as' ++ (bs ++ cs)
      assoc [] bs cs = refl
      assoc (a ∷ as') bs cs = ap (λ (ws : List Use). a ∷ ws) (assoc as' bs cs)

  elems_kept : (us : List PartTree) → flat_map term_uses (flat_map (part_elems sc) us) ≡ map (printed_use sc) (flat_map part_uses (filter (λ u. not (is_name u)) us))
  elems_kept [] = refl
  elems_kept (PartName i ∷ us) = elems_kept us
  elems_kept (Braces p ts ∷ us) =
      elems_split (map (read_int sc) ts) (flat_map (part_elems sc) us)
      ∙ both_mapped (printed_use sc) (flat_map int_uses ts) (flat_map part_uses (filter (λ u. not (is_name u)) us)) _ _ (ints_kept ts) (elems_kept us)

  singles : (vs : List Var) → flat_map (λ v. set_use v ∷ []) vs ≡ map set_use vs
  singles [] = refl
  singles (v ∷ vs) = ap (λ (ws : List Use). set_use v ∷ ws) (singles vs)

  pub union_kept : (us : List PartTree) → Firsts (union_uses (read_union sc us)) (map (printed_use sc) (kept_parts us))
  union_kept us =
      let all : List Var = flat_map (part_vars sc) us in
      let once : List Var = without_repeats var_eq all in
      let terms : List Term = flat_map (part_elems sc) us in
      let names : List Use = flat_map part_uses (filter is_name us) in
      let others : List Use = flat_map part_uses (filter (λ u. not (is_name u)) us) in
      let vars_part : Firsts (map set_use once) (map (printed_use sc) names) =
      firsts_then (map set_use once) (flat_map (λ v. set_use v ∷ []) once) (map (printed_use sc) names) (firsts_same _ _ (sym (singles once)))
      (firsts_then (flat_map (λ v. set_use v ∷ []) once) (flat_map (λ v. set_use v ∷ []) all) (map (printed_use sc) names) (firsts_once var_eq Decides-var_eq (λ v. set_use v ∷ []) all)
      (firsts_same _ _ (singles all ∙ vars_kept us))) in
      let elems_part : Firsts (flat_map term_uses (without_repeats term_eq terms)) (map (printed_use sc) others) =
      firsts_then (flat_map term_uses (without_repeats term_eq terms)) (flat_map term_uses terms) (map (printed_use sc) others) (firsts_once term_eq Decides-term_eq term_uses terms) (firsts_same _ _ (elems_kept us)) in
      firsts_mapped (printed_use sc) (map set_use once) (flat_map term_uses (without_repeats term_eq terms)) names others vars_part elems_part

  set_kept : (u : SetTree) → Firsts (union_uses (read_set sc u)) (map (printed_use sc) (kept_set u))
  set_kept u = union_kept (set_parts u)

  -- ---- literals

  int_firsts : (t : IntTree) → Firsts (term_uses (read_int sc t)) (map (printed_use sc) (int_uses t))
  int_firsts t = firsts_same _ _ (int_kept t)

  turned_kept : (t : Bool) (a b : IntTree) → Firsts (cond t (term_uses (read_int sc b) ++ term_uses (read_int sc a)) (term_uses (read_int sc a) ++ term_uses (read_int sc b))) (map (printed_use sc) (cond t (int_uses b ++ int_uses a) (int_uses a ++ int_uses b)))
  turned_kept true a b = firsts_mapped (printed_use sc) (term_uses (read_int sc b)) (term_uses (read_int sc a)) (int_uses b) (int_uses a) (int_firsts b) (int_firsts a)
  turned_kept false a b = firsts_mapped (printed_use sc) (term_uses (read_int sc a)) (term_uses (read_int sc b)) (int_uses a) (int_uses b) (int_firsts a) (int_firsts b)

  two_sets : (a b : SetTree) → Firsts (union_uses (read_set sc a) ++ union_uses (read_set sc b)) (map (printed_use sc) (kept_set a ++ kept_set b))
  two_sets a b = firsts_mapped (printed_use sc) (union_uses (read_set sc a)) (union_uses (read_set sc b)) (kept_set a) (kept_set b) (set_kept a) (set_kept b)

  term_and_set : (a : IntTree) (b : SetTree) → Firsts (term_uses (read_int sc a) ++ union_uses (read_set sc b)) (map (printed_use sc) (int_uses a ++ kept_set b))
  term_and_set a b = firsts_mapped (printed_use sc) (term_uses (read_int sc a)) (union_uses (read_set sc b)) (int_uses a) (kept_set b) (int_firsts a) (set_kept b)

  pub lit_kept : (n : Bool) (l : LitTree) → Firsts (printed_lit_uses (under n (read_lit sc l))) (map (printed_use sc) (kept_lit n l))
  lit_kept n (Comparing a c b) =
      firsts_then _ _ _ (firsts_same (printed_lit_uses (under n (compared c (read_int sc a) (read_int sc b))))
      (cond (is_turned n c) (term_uses (read_int sc b) ++ term_uses (read_int sc a)) (term_uses (read_int sc a) ++ term_uses (read_int sc b))) (compared_uses n c (read_int sc a) (read_int sc b)))
      (turned_kept (is_turned n c) a b)
  lit_kept false (SameSets a b) = two_sets a b
  lit_kept true (SameSets a b) = two_sets a b
  lit_kept false (SubSets a b) = two_sets a b
  lit_kept true (SubSets a b) = two_sets a b
  lit_kept false (Inside a b) = term_and_set a b
  lit_kept true (Inside a b) = term_and_set a b
  lit_kept n (Negation p l) =
      firsts_then _ (printed_lit_uses (under (not n) (read_lit sc l))) _ (firsts_same _ _ (ap printed_lit_uses (under_not n (read_lit sc l)))) (lit_kept (not n) l)

  -- ---- arguments

  arg_kept : (s : Sort) → s ≢ Card → (x : ArgTree) → Firsts (printed_arg_uses (read_arg sc s x)) (map (printed_use sc) (arg_uses kept_parts (Some s) x))
  arg_kept Card n x = absurd (n refl)
  arg_kept Set n (TermArg (Named i)) = firsts_same _ _ refl
  arg_kept Int n (TermArg (Named i)) = firsts_same _ _ refl
  arg_kept s n (TermArg t) = int_firsts t
  arg_kept s n (BracesArg p ts us) = union_kept (Braces p ts ∷ us)
  arg_kept s n (UnionArg i u us) = union_kept (PartName i ∷ u ∷ us)

  pub args_kept : (ss : List Sort) → ((s : Sort) → Among s ss → s ≢ Card) → (xs : List ArgTree) → length ss ≡ length xs
      → Firsts (flat_map printed_arg_uses (read_args sc ss xs)) (map (printed_use sc) (args_uses kept_parts ss xs))
  args_kept [] n [] e = firsts_same _ _ refl
  args_kept [] n (x ∷ xs) e = absurd cc
  args_kept (s ∷ ss) n [] e = absurd cc
  args_kept (s ∷ ss) n (x ∷ xs) e =
      let lengths : length ss ≡ length xs = omega (arith, e) in
      firsts_mapped (printed_use sc) (printed_arg_uses (read_arg sc s x)) (flat_map printed_arg_uses (read_args sc ss xs)) (arg_uses kept_parts (Some s) x) (args_uses kept_parts ss xs)
      (arg_kept s (n s (inl refl)) x) (args_kept ss (λ r m. n r (inr m)) xs lengths)
