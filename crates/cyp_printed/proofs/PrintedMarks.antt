-- The marks of printed terms, literals and chunks are tokens of specifications, where numbers are in range and variables few.
use Rattle.std.proofs.Common.{List, None, Option, Some, [], flat_map, inl, inr, map, nat_abs, refl, subst, sym, true, ℤ, ◌++◌, ◌∷◌, ◌≡◌, ◌<◌, ◌≤◌, ◌^◌, suc, zero}
use Rattle.std.specs.Prelude.{negsuc, pos}
use Rattle.cyp_lex.specs.Lexemes.{Name, Number, Reserved, Said, Symbol}
use Rattle.cyp_lex.specs.Spelling.{Any, At, Mark, ident, separated, sign, word}
use Rattle.cyp_heap.specs.Chunks.{arg_vars}
use Rattle.cyp_heap.specs.PredsFormed.{arg_terms, lit_terms}
use Rattle.cyp_heap.specs.declared.chunk.Arg.{Arg}
use Rattle.cyp_heap.specs.declared.chunk.Arg.TheVariants.{Int as IntArg, Set as SetArg}
use Rattle.cyp_lex.proofs.TokenTexts.{is_written}
use Rattle.cyp_lex.specs.declared.token.Sign.{Sign}
use Rattle.cyp_lex.specs.declared.token.Sign.TheVariants.{AtMost, Comma, Equal, LeftBrace, LeftParen, Less, Minus, Plus, RightBrace, RightParen, Same as SameSign, Subset, TwoPluses, Unequal}
use Rattle.cyp_lex.specs.declared.token.TokenKind.TheVariants as kinds
use Rattle.cyp_lex.specs.declared.token.Word.TheVariants.{In, Not}
use Rattle.cyp_term.specs.Terms.{lit_vars, set_vars, term_vars}
use Rattle.cyp_term.specs.declared.lit.Lit.{Lit}
use Rattle.cyp_term.specs.declared.lit.Lit.TheVariants.{Eq, Le, Lt, Member, Ne, NotMember, NotSame, NotSub, Same, Sub}
use Rattle.cyp_term.specs.declared.lit.SetTerm.{SetTerm}
use Rattle.cyp_term.specs.declared.term.Term.{Term}
use Rattle.cyp_term.specs.declared.term.Var.{Var}
use Rattle.cyp_term.proofs.Lists.{Among, Among-cases, Among-left, Among-right, flat_in, map_from}
use Rattle.cyp_text.specs.Grammar.{arg_spelling, braces_spelling, int_spelling, lit_spelling, part_spelling, parts_spelling, set_spelling}
use Rattle.cyp_writing.specs.PrintedTrees.{arg_tree, braces_of, lit_tree, parts_of, set_tree, term_tree, term_tree_by, union_arg, var_ident}
use Rattle.cyp_writing.specs.Printing.{mark_said}
use Rattle.cyp_text.specs.declared.tree.IntTree.{IntTree}
use Rattle.cyp_text.specs.declared.tree.PartTree.{PartTree}
use Rattle.cyp_text.specs.declared.tree.PartTree.TheVariants.{Braces, PartName}
use Rattle.cyp_printed.proofs.PrintedLines.{saids}
use Rattle.cyp_printed.proofs.PrintedNames.{var_name_text}
use Rattle.cyp_spec.proofs.TokenMarks.{AllProper, Marks, Proper, marks_both, marks_cons, marks_list, marks_none, marks_separated, proper_name, proper_number, proper_sign, proper_word}

pub marks_said : (ms : List Mark) → Marks ms → AllProper (saids ms)
marks_said ms h k m = let f = map_from mark_said k ms m in subst (λ (x : Said). Proper x) (sym f.2) (h f.0 f.1)

-- ---- terms

-- a variable whose name is printed
abbrev pub IsShort : Var → Type 0
IsShort v = v.number < 2 ^ 63

-- each of these variables
abbrev pub AreShort : List Var → Type 0
AreShort vs = (v : Var) → Among v vs → IsShort v

-- the offset can be written
abbrev pub IsSmall : Term → Type 0
IsSmall t = nat_abs t.offset ≤ 2147483648

-- each of these terms
abbrev pub AreSmall : List Term → Type 0
AreSmall ts = (t : Term) → Among t ts → IsSmall t

pub proper_var : (v : Var) → IsShort v → Proper (Name (var_ident v).text)
proper_var v h = proper_name (var_ident v).text (var_name_text v h)

based_marks : (v : Var) (z : ℤ) → IsShort v → nat_abs z ≤ 2147483648 → Marks (int_spelling (term_tree_by (Some v) z))
based_marks v (pos zero) s h = marks_cons (ident (var_ident v)) [] (proper_var v s) marks_none
based_marks v (pos (suc n)) s h =
    marks_cons (ident (var_ident v)) (sign Plus ∷ Any (Number (suc n)) ∷ []) (proper_var v s)
    (marks_cons (sign Plus) (Any (Number (suc n)) ∷ []) (proper_sign Plus refl) (marks_cons (Any (Number (suc n))) [] (proper_number (suc n) h) marks_none))
based_marks v (negsuc n) s h =
    marks_cons (ident (var_ident v)) (sign Minus ∷ Any (Number (suc n)) ∷ []) (proper_var v s)
    (marks_cons (sign Minus) (Any (Number (suc n)) ∷ []) (proper_sign Minus refl) (marks_cons (Any (Number (suc n))) [] (proper_number (suc n) h) marks_none))

number_marks : (z : ℤ) → nat_abs z ≤ 2147483648 → Marks (int_spelling (term_tree_by None z))
number_marks (pos n) h = marks_cons (At (Number n) 0) [] (proper_number n h) marks_none
number_marks (negsuc n) h = marks_cons (At (Symbol Minus) 0) (Any (Number (suc n)) ∷ []) (proper_sign Minus refl) (marks_cons (Any (Number (suc n))) [] (proper_number (suc n) h) marks_none)

marks_by : (base : Option Var) (z : ℤ) → AreShort (term_vars (record { base = base; offset = z })) → nat_abs z ≤ 2147483648 → Marks (int_spelling (term_tree_by base z))
marks_by None z s h = number_marks z h
marks_by (Some v) z s h = based_marks v z (s v (inl refl)) h

pub term_marks : (t : Term) → AreShort (term_vars t) → IsSmall t → Marks (int_spelling (term_tree t))
term_marks t s h = marks_by t.base t.offset s h

-- ---- unions

name_marks : (v : Var) → IsShort v → Marks (part_spelling (PartName (var_ident v)))
name_marks v s = marks_cons (ident (var_ident v)) [] (proper_var v s) marks_none

terms_marks : (ts : List Term) → AreShort (flat_map term_vars ts) → AreSmall ts → (x : IntTree) → Among x (map term_tree ts) → Marks (int_spelling x)
terms_marks ts s h x m =
    let f = map_from term_tree x ts m in
    subst (λ (y : IntTree). Marks (int_spelling y)) (sym f.2) (term_marks f.0 (λ v k. s v (flat_in term_vars v f.0 ts f.1 k)) (h f.0 f.1))

braces_marks : (ts : List Term) → AreShort (flat_map term_vars ts) → AreSmall ts → Marks (braces_spelling 0 (map term_tree ts))
braces_marks ts s h =
    marks_cons (At (Symbol LeftBrace) 0) (separated (Symbol Comma) int_spelling (map term_tree ts) ++ sign RightBrace ∷ []) (proper_sign LeftBrace refl)
    (marks_both (separated (Symbol Comma) int_spelling (map term_tree ts)) (sign RightBrace ∷ []) (marks_separated (Symbol Comma) (proper_sign Comma refl) int_spelling (map term_tree ts) (terms_marks ts s h))
    (marks_cons (sign RightBrace) [] (proper_sign RightBrace refl) marks_none))

part_marks : (u : SetTerm) → AreShort (set_vars u) → AreSmall u.elems → (w : PartTree) → Among w (parts_of u) → Marks (part_spelling w)
part_marks u s h w m = elim (Among-cases w (map (λ v. PartName (var_ident v)) u.vars) (braces_of u.vars u.elems) m) [
  | inl a ↦ (let f = map_from (λ (v : Var). PartName (var_ident v)) w u.vars a in
      subst (λ (x : PartTree). Marks (part_spelling x)) (sym f.2) (name_marks f.0 (s f.0 (Among-left f.0 u.vars (flat_map term_vars u.elems) f.1))))
  | inr b ↦ in_braces u.vars u.elems (λ v k. s v (Among-right v u.vars (flat_map term_vars u.elems) k)) h b
]
  where
    in_braces : (vs : List Var) (ts : List Term) → AreShort (flat_map term_vars ts) → AreSmall ts → Among w (braces_of vs ts) → Marks (part_spelling w)
    in_braces [] ts s h (inl e) = subst (λ (x : PartTree). Marks (part_spelling x)) (sym e) (braces_marks ts s h)
    in_braces [] ts s h (inr k) = absurd k
    in_braces (v ∷ vs) [] s h k = absurd k
    in_braces (v ∷ vs) (t ∷ ts) s h (inl e) = subst (λ (x : PartTree). Marks (part_spelling x)) (sym e) (braces_marks (t ∷ ts) s h)
    in_braces (v ∷ vs) (t ∷ ts) s h (inr k) = absurd k

parts_marks : (u : PartTree) (us : List PartTree) → ((w : PartTree) → Among w (u ∷ us) → Marks (part_spelling w)) → Marks (parts_spelling u us)
parts_marks u us h = marks_list (Symbol TwoPluses) (proper_sign TwoPluses refl) part_spelling u us (h u (inl refl)) (λ w m. h w (inr m))

-- the two ways to write a set term
both_marks : (vs : List Var) (ts : List Term) → ((w : PartTree) → Among w (parts_of (record { vars = vs; elems = ts })) → Marks (part_spelling w))
    → Marks (set_spelling (set_tree (record { vars = vs; elems = ts }))) × Marks (arg_spelling (union_arg (parts_of (record { vars = vs; elems = ts }))))
both_marks [] ts h = (parts_marks (Braces 0 (map term_tree ts)) [] h, parts_marks (Braces 0 (map term_tree ts)) [] h)
both_marks (v ∷ []) [] h = (parts_marks (PartName (var_ident v)) [] h, h (PartName (var_ident v)) (inl refl))
both_marks (v ∷ []) (t ∷ ts) h = (parts_marks (PartName (var_ident v)) (Braces 0 (map term_tree (t ∷ ts)) ∷ []) h, parts_marks (PartName (var_ident v)) (Braces 0 (map term_tree (t ∷ ts)) ∷ []) h)
both_marks (v ∷ w ∷ vs) [] h = (parts_marks (PartName (var_ident v)) (PartName (var_ident w) ∷ (map (λ x. PartName (var_ident x)) vs ++ [])) h, parts_marks (PartName (var_ident v)) (PartName (var_ident w) ∷ (map (λ x. PartName (var_ident x)) vs ++ [])) h)
both_marks (v ∷ w ∷ vs) (t ∷ ts) h =
    let others : List PartTree = PartName (var_ident w) ∷ (map (λ x. PartName (var_ident x)) vs ++ Braces 0 (map term_tree (t ∷ ts)) ∷ []) in
    (parts_marks (PartName (var_ident v)) others h, parts_marks (PartName (var_ident v)) others h)

pub set_marks : (u : SetTerm) → AreShort (set_vars u) → AreSmall u.elems → Marks (set_spelling (set_tree u))
set_marks u s h = (both_marks u.vars u.elems (part_marks u s h)).0

-- ---- literals

two_marks : (ms ns : List Mark) (m : Mark) → Proper (mark_said m) → Marks ms → Marks ns → Marks (ms ++ (m ∷ ns))
two_marks ms ns m p h k = marks_both ms (m ∷ ns) h (marks_cons m ns p k)

not_marks : (ms : List Mark) → Marks ms → Marks (At (Reserved Not) 0 ∷ sign LeftParen ∷ (ms ++ sign RightParen ∷ []))
not_marks ms h =
    marks_cons (At (Reserved Not) 0) (sign LeftParen ∷ (ms ++ sign RightParen ∷ [])) (proper_word Not)
    (marks_cons (sign LeftParen) (ms ++ sign RightParen ∷ []) (proper_sign LeftParen refl) (marks_both ms (sign RightParen ∷ []) h (marks_cons (sign RightParen) [] (proper_sign RightParen refl) marks_none)))

two_terms : (s : Sign) → is_written s ≡ true → (a b : Term) → AreShort (term_vars a ++ term_vars b) → AreSmall (a ∷ b ∷ []) → Marks (int_spelling (term_tree a) ++ (sign s ∷ int_spelling (term_tree b)))
two_terms s w a b short h =
    two_marks (int_spelling (term_tree a)) (int_spelling (term_tree b)) (sign s) (proper_sign s w)
    (term_marks a (λ v k. short v (Among-left v (term_vars a) (term_vars b) k)) (h a (inl refl)))
    (term_marks b (λ v k. short v (Among-right v (term_vars a) (term_vars b) k)) (h b (inr (inl refl))))

two_sets : (s : Sign) → is_written s ≡ true → (a b : SetTerm) → AreShort (set_vars a ++ set_vars b) → AreSmall (a.elems ++ b.elems) → Marks (set_spelling (set_tree a) ++ (sign s ∷ set_spelling (set_tree b)))
two_sets s w a b short h =
    two_marks (set_spelling (set_tree a)) (set_spelling (set_tree b)) (sign s) (proper_sign s w)
    (set_marks a (λ v k. short v (Among-left v (set_vars a) (set_vars b) k)) (λ t k. h t (Among-left t a.elems b.elems k)))
    (set_marks b (λ v k. short v (Among-right v (set_vars a) (set_vars b) k)) (λ t k. h t (Among-right t a.elems b.elems k)))

term_and_set : (a : Term) (b : SetTerm) → AreShort (term_vars a ++ set_vars b) → AreSmall (a ∷ b.elems) → Marks (int_spelling (term_tree a) ++ (word In ∷ set_spelling (set_tree b)))
term_and_set a b short h =
    two_marks (int_spelling (term_tree a)) (set_spelling (set_tree b)) (word In) (proper_word In)
    (term_marks a (λ v k. short v (Among-left v (term_vars a) (set_vars b) k)) (h a (inl refl)))
    (set_marks b (λ v k. short v (Among-right v (term_vars a) (set_vars b) k)) (λ t k. h t (inr k)))

pub lit_marks : (l : Lit) → AreShort (lit_vars l) → AreSmall (lit_terms l) → Marks (lit_spelling (lit_tree l))
lit_marks (Eq a b) s h = two_terms Equal refl a b s h
lit_marks (Ne a b) s h = two_terms Unequal refl a b s h
lit_marks (Le a b) s h = two_terms AtMost refl a b s h
lit_marks (Lt a b) s h = two_terms Less refl a b s h
lit_marks (Same a b) s h = two_sets SameSign refl a b s h
lit_marks (NotSame a b) s h = not_marks (set_spelling (set_tree a) ++ (sign SameSign ∷ set_spelling (set_tree b))) (two_sets SameSign refl a b s h)
lit_marks (Member a b) s h = term_and_set a b s h
lit_marks (NotMember a b) s h = not_marks (int_spelling (term_tree a) ++ (word In ∷ set_spelling (set_tree b))) (term_and_set a b s h)
lit_marks (Sub a b) s h = two_sets Subset refl a b s h
lit_marks (NotSub a b) s h = not_marks (set_spelling (set_tree a) ++ (sign Subset ∷ set_spelling (set_tree b))) (two_sets Subset refl a b s h)

-- ---- arguments

pub arg_marks : (a : Arg) → AreShort (arg_vars a) → AreSmall (arg_terms a) → Marks (arg_spelling (arg_tree a))
arg_marks (IntArg t) s h = term_marks t s (h t (inl refl))
arg_marks (SetArg u) s h = (both_marks u.vars u.elems (part_marks u s h)).1
