-- Numbers that are read are in range, where the marks of their tree are tokens of specifications.
use Rattle.std.proofs.Common.{List, [], arith, flat_map, inl, inr, map, nat_abs, refl, subst, sym, ℤ, ◌++◌, ◌∷◌, ◌≤◌, ℕ, suc, zero}
use Rattle.std.specs.Prelude.{neg_ℤ, pos, ◌+ℤ◌}
use Rattle.cyp_lex.specs.Lexemes.{Number, Reserved, Symbol}
use Rattle.cyp_lex.specs.Spelling.{Any, At, ident, separated, sign, word}
use Rattle.cyp_lex.specs.declared.ident.Ident.{Ident}
use Rattle.cyp_heap.specs.PredsFormed.{arg_terms, chunk_terms, lit_terms}
use Rattle.cyp_lex.specs.declared.token.Sign.TheVariants.{Comma, LeftBrace, LeftParen, RightBrace, RightParen, Same as SameSign, Subset, TwoPluses}
use Rattle.cyp_lex.specs.declared.token.Word.TheVariants.{In, Not}
use Rattle.cyp_term.specs.Terms.{negated, term_eq}
use Rattle.cyp_term.specs.declared.lit.Lit.{Lit}
use Rattle.cyp_term.specs.declared.lit.Lit.TheVariants.{Eq, Le, Lt, Member, Ne, NotMember, NotSame, NotSub, Same, Sub}
use Rattle.cyp_term.specs.declared.term.Sort.{Sort}
use Rattle.cyp_term.specs.declared.term.Sort.TheVariants.{Set}
use Rattle.cyp_term.specs.declared.term.Term.{Term}
use Rattle.cyp_term.proofs.Equality.{Decides-term_eq}
use Rattle.cyp_term.proofs.Lists.{Among, Among-cases, flat_out, map_from}
use Rattle.cyp_term.proofs.Repeats.{without_repeats_out}
use Rattle.cyp_text.specs.Grammar.{arg_spelling, braces_spelling, chunk_spelling, comparison_sign, int_spelling, lit_spelling, part_spelling, parts_spelling, set_spelling}
use Rattle.cyp_names.specs.ReadTerms.{Scope, compared, part_elems, read_arg, read_args, read_chunk, read_int, read_lit, read_set, read_union}
use Rattle.cyp_text.specs.LitTrees.{Comparing, Inside, LitTree, Negation, SameSets, SubSets}
use Rattle.cyp_text.specs.declared.tree.ArgTree.{ArgTree}
use Rattle.cyp_text.specs.declared.tree.ArgTree.TheVariants.{BracesArg, TermArg, UnionArg}
use Rattle.cyp_text.specs.declared.tree.ChunkTree.{ChunkTree}
use Rattle.cyp_text.specs.declared.tree.ChunkTree.TheVariants.{BlockOf, InstanceOf, NamedCell, TermCell}
use Rattle.cyp_text.specs.declared.tree.Comparison.{Comparison}
use Rattle.cyp_text.specs.declared.tree.Comparison.TheVariants.{IsAbove, IsAtLeast, IsAtMost, IsBelow, IsEqual, IsUnequal}
use Rattle.cyp_text.specs.declared.tree.IntTree.{IntTree}
use Rattle.cyp_text.specs.declared.tree.IntTree.TheVariants.{MinusNum, NameMinus, NamePlus, Named, Num, NumPlus}
use Rattle.cyp_text.specs.declared.tree.PartTree.{PartTree}
use Rattle.cyp_text.specs.declared.tree.PartTree.TheVariants.{Braces, PartName}
use Rattle.cyp_text.specs.declared.tree.PredTree.{PredTree}
use Rattle.cyp_text.specs.declared.tree.SetTree.{SetTree}
use Rattle.cyp_names.specs.Uses.{arg_sorts, set_parts}
use Rattle.cyp_printed.proofs.PrintedBack.{sum_is}
use Rattle.cyp_printed.proofs.PrintedMarks.{AreSmall, IsSmall}
use Rattle.cyp_spec.proofs.TokenMarks.{Marks, block_at, cell_at, each_list, each_separated, inst_args, marks_cons, marks_first, marks_left, marks_none, marks_rest, marks_right, named_cell, number_small}

-- ---- terms

negative_small : (n : ℕ) → n ≤ 2147483648 → nat_abs (neg_ℤ (pos n)) ≤ 2147483648
negative_small zero h = h
negative_small (suc n) h = h

sum_small : (z : ℤ) → nat_abs z ≤ 2147483648 → nat_abs (pos 0 +ℤ z) ≤ 2147483648
sum_small z h = subst (λ (y : ℤ). nat_abs y ≤ 2147483648) (sym (sum_is z)) h

one_small : (t : Term) → IsSmall t → AreSmall (t ∷ [])
one_small t h x (inl e) = subst (λ (y : Term). IsSmall y) (sym e) h
one_small t h x (inr k) = absurd k

two_small : (a b : Term) → IsSmall a → IsSmall b → AreSmall (a ∷ b ∷ [])
two_small a b h k x (inl e) = subst (λ (y : Term). IsSmall y) (sym e) h
two_small a b h k x (inr m) = one_small b k x m

both_small : (as' bs : List Term) → AreSmall as' → AreSmall bs → AreSmall (as' ++ bs)
both_small as' bs h k x m = elim (Among-cases x as' bs m) [ inl a ↦ h x a | inr b ↦ k x b ]

first_small : (a : Term) (bs : List Term) → IsSmall a → AreSmall bs → AreSmall (a ∷ bs)
first_small a bs h k x (inl e) = subst (λ (y : Term). IsSmall y) (sym e) h
first_small a bs h k x (inr m) = k x m

compared_small : (c : Comparison) (a b : Term) → IsSmall a → IsSmall b → AreSmall (lit_terms (compared c a b))
compared_small IsEqual a b h k = two_small a b h k
compared_small IsUnequal a b h k = two_small a b h k
compared_small IsAtMost a b h k = two_small a b h k
compared_small IsBelow a b h k = two_small a b h k
compared_small IsAtLeast a b h k = two_small b a k h
compared_small IsAbove a b h k = two_small b a k h

negated_small : (l : Lit) → AreSmall (lit_terms l) → AreSmall (lit_terms (negated l))
negated_small (Le a b) h = two_small b a (h b (inr (inl refl))) (h a (inl refl))
negated_small (Lt a b) h = two_small b a (h b (inr (inl refl))) (h a (inl refl))
negated_small (Eq a b) h = h
negated_small (Ne a b) h = h
negated_small (Same a b) h = h
negated_small (NotSame a b) h = h
negated_small (Member a b) h = h
negated_small (NotMember a b) h = h
negated_small (Sub a b) h = h
negated_small (NotSub a b) h = h

module _ (sc : Scope) where
  pub int_small : (t : IntTree) → Marks (int_spelling t) → IsSmall (read_int sc t)
  int_small (Num p n) h = number_small n (h (At (Number n) p) (inl refl))
  int_small (MinusNum p n) h = negative_small n (number_small n (h (Any (Number n)) (inr (inl refl))))
  int_small (Named i) h = omega arith
  int_small (NamePlus i n) h = sum_small (pos n) (number_small n (h (Any (Number n)) (inr (inr (inl refl)))))
  int_small (NameMinus i n) h = sum_small (neg_ℤ (pos n)) (negative_small n (number_small n (h (Any (Number n)) (inr (inr (inl refl))))))
  int_small (NumPlus p n i) h = sum_small (pos n) (number_small n (h (At (Number n) p) (inl refl)))

  -- ---- unions

  braces_small : (p : ℕ) (ts : List IntTree) → Marks (braces_spelling p ts) → AreSmall (map (read_int sc) ts)
  braces_small p ts h t m =
      let f = map_from (read_int sc) t ts m in
      let inner : Marks (separated (Symbol Comma) int_spelling ts) = marks_left (separated (Symbol Comma) int_spelling ts) (sign RightBrace ∷ [])
      (marks_rest (At (Symbol LeftBrace) p) (separated (Symbol Comma) int_spelling ts ++ sign RightBrace ∷ []) h) in
      subst (λ (x : Term). IsSmall x) (sym f.2) (int_small f.0 (each_separated (Symbol Comma) int_spelling ts inner f.0 f.1))

  part_small : (w : PartTree) → Marks (part_spelling w) → AreSmall (part_elems sc w)
  part_small (PartName i) h t m = absurd m
  part_small (Braces p ts) h t m = braces_small p ts h t m

  union_small : (us : List PartTree) → ((w : PartTree) → Among w us → Marks (part_spelling w)) → AreSmall (read_union sc us).elems
  union_small us h t m =
      let o = flat_out (part_elems sc) t us (without_repeats_out term_eq Decides-term_eq t (flat_map (part_elems sc) us) m) in
      part_small o.0 (h o.0 o.1) t o.2

  set_small : (u : SetTree) → Marks (set_spelling u) → AreSmall (read_set sc u).elems
  set_small u h = union_small (set_parts u) (each_list (Symbol TwoPluses) part_spelling u.first u.others h)

  -- ---- literals

  pub lit_small : (l : LitTree) → Marks (lit_spelling l) → AreSmall (lit_terms (read_lit sc l))
  lit_small (Comparing a c b) h =
      compared_small c (read_int sc a) (read_int sc b) (int_small a (marks_left (int_spelling a) (sign (comparison_sign c) ∷ int_spelling b) h))
      (int_small b (marks_rest (sign (comparison_sign c)) (int_spelling b) (marks_right (int_spelling a) (sign (comparison_sign c) ∷ int_spelling b) h)))
  lit_small (SameSets a b) h =
      both_small (read_set sc a).elems (read_set sc b).elems (set_small a (marks_left (set_spelling a) (sign SameSign ∷ set_spelling b) h))
      (set_small b (marks_rest (sign SameSign) (set_spelling b) (marks_right (set_spelling a) (sign SameSign ∷ set_spelling b) h)))
  lit_small (SubSets a b) h =
      both_small (read_set sc a).elems (read_set sc b).elems (set_small a (marks_left (set_spelling a) (sign Subset ∷ set_spelling b) h))
      (set_small b (marks_rest (sign Subset) (set_spelling b) (marks_right (set_spelling a) (sign Subset ∷ set_spelling b) h)))
  lit_small (Inside a b) h =
      first_small (read_int sc a) (read_set sc b).elems (int_small a (marks_left (int_spelling a) (word In ∷ set_spelling b) h))
      (set_small b (marks_rest (word In) (set_spelling b) (marks_right (int_spelling a) (word In ∷ set_spelling b) h)))
  lit_small (Negation p l) h =
      negated_small (read_lit sc l) (lit_small l (marks_left (lit_spelling l) (sign RightParen ∷ [])
      (marks_rest (sign LeftParen) (lit_spelling l ++ sign RightParen ∷ []) (marks_rest (At (Reserved Not) p) (sign LeftParen ∷ (lit_spelling l ++ sign RightParen ∷ [])) h))))

  -- ---- arguments

  named_part : (i : Ident) (u : PartTree) (us : List PartTree) → Marks (arg_spelling (UnionArg i u us)) → (w : PartTree) → Among w (PartName i ∷ u ∷ us) → Marks (part_spelling w)
  named_part i u us h w (inl e) = subst (λ (x : PartTree). Marks (part_spelling x)) (sym e) (marks_cons (ident i) [] (marks_first (ident i) (sign TwoPluses ∷ parts_spelling u us) h) marks_none)
  named_part i u us h w (inr m) =
      each_list (Symbol TwoPluses) part_spelling u us (marks_rest (sign TwoPluses) (parts_spelling u us) (marks_rest (ident i) (sign TwoPluses ∷ parts_spelling u us) h)) w m

  no_terms : AreSmall []
  no_terms t m = absurd m

  arg_small : (s : Sort) (x : ArgTree) → Marks (arg_spelling x) → AreSmall (arg_terms (read_arg sc s x))
  arg_small Set (TermArg (Named i)) h = no_terms
  arg_small s (TermArg t) h = one_small (read_int sc t) (int_small t h)
  arg_small s (BracesArg p ts us) h = union_small (Braces p ts ∷ us) (each_list (Symbol TwoPluses) part_spelling (Braces p ts) us h)
  arg_small s (UnionArg i u us) h = union_small (PartName i ∷ u ∷ us) (named_part i u us h)

  args_small : (ss : List Sort) (xs : List ArgTree) → ((x : ArgTree) → Among x xs → Marks (arg_spelling x)) → AreSmall (flat_map arg_terms (read_args sc ss xs))
  args_small [] xs h = no_terms
  args_small (s ∷ ss) [] h = no_terms
  args_small (s ∷ ss) (x ∷ xs) h = both_small (arg_terms (read_arg sc s x)) (flat_map arg_terms (read_args sc ss xs)) (arg_small s x (h x (inl refl))) (args_small ss xs (λ y m. h y (inr m)))

  -- ---- chunks

  pub chunk_small : (qs : List PredTree) (c : ChunkTree) → Marks (chunk_spelling c) → AreSmall (chunk_terms (read_chunk qs sc c))
  chunk_small qs (NamedCell i t) h = two_small _ (read_int sc t) (omega arith) (int_small t (named_cell i t h))
  chunk_small qs (TermCell a t) h = two_small (read_int sc a) (read_int sc t) (int_small a (cell_at a t h).0) (int_small t (cell_at a t h).1)
  chunk_small qs (BlockOf a p n) h = one_small (read_int sc a) (int_small a (block_at a p n h).0)
  chunk_small qs (InstanceOf i xs) h = args_small (arg_sorts qs i xs) xs (inst_args i xs h)
