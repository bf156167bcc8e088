-- What tokens of a text may say, and marks that say this.
use Rattle.std.proofs.Common.{List, [], inl, inr, map, refl, sym, true, ℕ, ◌++◌, ◌∷◌, ◌≡◌, Ok, subst, ◌≤◌}
use Rattle.std.specs.Prelude.{slice_range}
use Rattle.cyp_lex.specs.Lexemes.{Name, Number, Reserved, Said, Symbol, Variable, lexeme_of, said_by, Lexeme}
use Rattle.cyp_lex.specs.declared.token.Sign.TheVariants.{LeftBracket, LeftParen, Comma, RightParen, PointsTo, RightBracket}
use Rattle.cyp_lex.specs.declared.token.Token.{Token}
use Rattle.cyp_lex.specs.declared.token.TokenKind.{TokenKind}
use Rattle.cyp_lex.specs.declared.token.TokenKind.TheVariants as kinds
use Rattle.cyp_lex.proofs.TokenTexts.{IsText, a_number, a_sign, a_word, is_written, a_name}
use Rattle.cyp_writing.specs.Printing.{said_text, mark_said}
use Rattle.cyp_term.proofs.Lists.{Among, Among-cases, Among-left, Among-right, map_from}
use Rattle.cyp_lex.specs.Spelling.{Any, At, Mark, all_spelling, ident, list_spelling, more_spelling, separated, sign, Match}
use Rattle.cyp_lex.specs.declared.token.Sign.{Sign}
use Rattle.cyp_lex.specs.declared.token.Word.{Word}
use Rattle.cyp_text.specs.Grammar.{arg_spelling, int_spelling, chunk_spelling, text_spelling}
use Rattle.cyp_text.specs.declared.tree.IntTree.{IntTree}
use Rattle.cyp_lex.specs.declared.ident.Ident.{Ident}
use Rattle.cyp_text.specs.declared.tree.ArgTree.{ArgTree}
use Rattle.cyp_text.specs.declared.tree.ChunkTree.TheVariants.{BlockOf, InstanceOf, NamedCell, TermCell}
use Rattle.cyp_lex.specs.Lexing.{tokens_of}
use Rattle.cyp_lex.proofs.TokensSay.{AllSay, Says, says_name, says_number, says_sign, says_word, tokens_say}
use Rattle.cyp_text.specs.declared.tree.TextTree.{TextTree}

-- the token that says this has this text
abbrev pub said_kind : Said → TokenKind
said_kind (Name text) = kinds.Name
said_kind (Variable n) = kinds.Name
said_kind (Number n) = kinds.Number n
said_kind (Reserved w) = kinds.Word w
said_kind (Symbol s) = kinds.Sign s

-- a token of a specification may say this
pub record Proper (k : Said) : Type 0 where
  pub text_right : IsText (said_kind k) (said_text k)
  pub says : said_by (said_kind k) (said_text k) ≡ k

-- each of these may be said
abbrev pub AllProper : List Said → Type 0
AllProper ks = (k : Said) → Among k ks → Proper k

pub proper_name : (text : List ℕ) → IsText kinds.Name text → Proper (Name text)
proper_name text t = record { text_right = t; says = refl }

-- each of these marks says a token of specifications
abbrev pub Marks : List Mark → Type 0
Marks ms = (m : Mark) → Among m ms → Proper (mark_said m)

pub marks_none : Marks []
marks_none m k = absurd k

pub marks_cons : (m : Mark) (ms : List Mark) → Proper (mark_said m) → Marks ms → Marks (m ∷ ms)
marks_cons m ms p h n (inl e) = subst (λ (x : Mark). Proper (mark_said x)) (sym e) p
marks_cons m ms p h n (inr k) = h n k

pub marks_both : (ms ns : List Mark) → Marks ms → Marks ns → Marks (ms ++ ns)
marks_both ms ns p q m k = elim (Among-cases m ms ns k) [ inl a ↦ p m a | inr b ↦ q m b ]

pub marks_left : (ms ns : List Mark) → Marks (ms ++ ns) → Marks ms
marks_left ms ns h m k = h m (Among-left m ms ns k)

pub marks_right : (ms ns : List Mark) → Marks (ms ++ ns) → Marks ns
marks_right ms ns h m k = h m (Among-right m ms ns k)

pub marks_first : (m : Mark) (ms : List Mark) → Marks (m ∷ ms) → Proper (mark_said m)
marks_first m ms h = h m (inl refl)

pub marks_rest : (m : Mark) (ms : List Mark) → Marks (m ∷ ms) → Marks ms
marks_rest m ms h n k = h n (inr k)

-- ---- tokens

pub proper_sign : (s : Sign) → is_written s ≡ true → Proper (Symbol s)
proper_sign s w = record { text_right = a_sign s w; says = refl }

pub proper_word : (w : Word) → Proper (Reserved w)
proper_word w = record { text_right = a_word w; says = refl }

pub proper_number : (n : ℕ) → n ≤ 2147483648 → Proper (Number n)
proper_number n h = record { text_right = a_number n h; says = refl }

-- the range of a number
pub number_small : (n : ℕ) → Proper (Number n) → n ≤ 2147483648
number_small n p = by_text (kinds.Number n) n refl p.text_right
  where
    by_text : (kind : _) (n : ℕ) → kind ≡ kinds.Number n → {text : List ℕ} → IsText kind text → n ≤ 2147483648
    by_text kind n e (a_number m h) = let same : m ≡ n = cc in subst (λ (k : ℕ). k ≤ 2147483648) same h
    by_text kind n e _ = absurd cc

-- ---- lists

module _ {A : Type 0} (separator : Said) (right : Proper separator) (spell : A → List Mark) where
  pub marks_more : (xs : List A) → ((x : A) → Among x xs → Marks (spell x)) → Marks (more_spelling separator spell xs)
  marks_more [] h = marks_none
  marks_more (x ∷ xs) h = marks_cons (Any separator) (spell x ++ more_spelling separator spell xs) right (marks_both (spell x) (more_spelling separator spell xs) (h x (inl refl)) (marks_more xs (λ y m. h y (inr m))))

  pub marks_list : (x : A) (xs : List A) → Marks (spell x) → ((y : A) → Among y xs → Marks (spell y)) → Marks (list_spelling separator spell x xs)
  marks_list x xs p h = marks_both (spell x) (more_spelling separator spell xs) p (marks_more xs h)

  pub marks_separated : (xs : List A) → ((x : A) → Among x xs → Marks (spell x)) → Marks (separated separator spell xs)
  marks_separated [] h = marks_none
  marks_separated (x ∷ xs) h = marks_list x xs (h x (inl refl)) (λ y m. h y (inr m))

module _ {A : Type 0} (spell : A → List Mark) where
  pub marks_all : (xs : List A) → ((x : A) → Among x xs → Marks (spell x)) → Marks (all_spelling spell xs)
  marks_all [] h = marks_none
  marks_all (x ∷ xs) h = marks_both (spell x) (all_spelling spell xs) (h x (inl refl)) (marks_all xs (λ y m. h y (inr m)))

  pub each_all : (xs : List A) → Marks (all_spelling spell xs) → (x : A) → Among x xs → Marks (spell x)
  each_all [] h x m = absurd m
  each_all (y ∷ ys) h x (inl e) = subst (λ (z : A). Marks (spell z)) (sym e) (marks_left (spell y) (all_spelling spell ys) h)
  each_all (y ∷ ys) h x (inr m) = each_all ys (marks_right (spell y) (all_spelling spell ys) h) x m

module _ {A : Type 0} (separator : Said) (spell : A → List Mark) where
  pub each_more : (xs : List A) → Marks (more_spelling separator spell xs) → (x : A) → Among x xs → Marks (spell x)
  each_more [] h x m = absurd m
  each_more (y ∷ ys) h x (inl e) = subst (λ (z : A). Marks (spell z)) (sym e) (marks_left (spell y) (more_spelling separator spell ys) (marks_rest (Any separator) (spell y ++ more_spelling separator spell ys) h))
  each_more (y ∷ ys) h x (inr m) = each_more ys (marks_right (spell y) (more_spelling separator spell ys) (marks_rest (Any separator) (spell y ++ more_spelling separator spell ys) h)) x m

  pub each_list : (x : A) (xs : List A) → Marks (list_spelling separator spell x xs) → (y : A) → Among y (x ∷ xs) → Marks (spell y)
  each_list x xs h y (inl e) = subst (λ (z : A). Marks (spell z)) (sym e) (marks_left (spell x) (more_spelling separator spell xs) h)
  each_list x xs h y (inr m) = each_more xs (marks_right (spell x) (more_spelling separator spell xs) h) y m

  pub each_separated : (xs : List A) → Marks (separated separator spell xs) → (x : A) → Among x xs → Marks (spell x)
  each_separated [] h x m = absurd m
  each_separated (y ∷ ys) h x m = each_list y ys h x m

-- ---- the tokens of a text

says_proper : (kind : TokenKind) (text : List ℕ) → Says kind text → Proper (said_by kind text)
says_proper kind text (says_name b bs s h k) = proper_name (b ∷ bs) (a_name b bs s h k)
says_proper kind text (says_number n bs small) = proper_number n small
says_proper kind text (says_word w bs) = proper_word w
says_proper kind text (says_sign s bs w) = proper_sign s w

pub lexeme_proper : (bytes : List ℕ) (ts : List Token) → AllSay bytes ts → (l : Lexeme) → Among l (map (lexeme_of bytes) ts) → Proper l.said
lexeme_proper bytes ts h l m =
    let f = map_from (lexeme_of bytes) l ts m in
    subst (λ (x : Lexeme). Proper x.said) (sym f.2) (says_proper f.0.kind (slice_range bytes f.0.start f.0.end) (h f.0 f.1))

pub matched_marks : (ms : List Mark) (ls : List Lexeme) → Match ms ls → ((l : Lexeme) → Among l ls → Proper l.said) → Marks ms
matched_marks [] ls h p m k = absurd k
matched_marks (n ∷ ms) [] h p m k = absurd h
matched_marks (Any s ∷ ms) (l ∷ ls) h p m (inl e) = subst (λ (x : Mark). Proper (mark_said x)) (sym e) (subst (λ (x : Said). Proper x) h.0 (p l (inl refl)))
matched_marks (At s q ∷ ms) (l ∷ ls) h p m (inl e) = subst (λ (x : Mark). Proper (mark_said x)) (sym e) (subst (λ (x : Said). Proper x) h.0.0 (p l (inl refl)))
matched_marks (n ∷ ms) (l ∷ ls) h p m (inr k) = matched_marks ms ls h.1 (λ x j. p x (inr j)) m k

-- a tree that the tokens of a text spell has marks of tokens
pub marks_of_tokens : (bytes : List ℕ) (ts : List Token) (t : TextTree) → tokens_of bytes ≡ Ok ts → Match (text_spelling t) (map (lexeme_of bytes) ts) → Marks (text_spelling t)
marks_of_tokens bytes ts t e m = matched_marks (text_spelling t) (map (lexeme_of bytes) ts) m (lexeme_proper bytes ts (tokens_say bytes ts e))

-- ---- chunks

-- the terms of a cell, of a block and of an instance
pub named_cell : (i : Ident) (t : IntTree) → Marks (chunk_spelling (NamedCell i t)) → Marks (int_spelling t)
named_cell i t h = marks_rest (sign PointsTo) (int_spelling t) (marks_rest (ident i) (sign PointsTo ∷ int_spelling t) h)

pub cell_at : (a t : IntTree) → Marks (chunk_spelling (TermCell a t)) → Marks (int_spelling a) × Marks (int_spelling t)
cell_at a t h =
    let behind : List Mark = sign RightParen ∷ sign PointsTo ∷ int_spelling t in
    let inner : Marks (int_spelling a ++ behind) = marks_rest (sign LeftParen) (int_spelling a ++ behind) h in
    let after : Marks behind = marks_right (int_spelling a) behind inner in
    (marks_left (int_spelling a) behind inner, marks_rest (sign PointsTo) (int_spelling t) (marks_rest (sign RightParen) (sign PointsTo ∷ int_spelling t) after))

pub block_at : (a : IntTree) (p n : ℕ) → Marks (chunk_spelling (BlockOf a p n)) → Marks (int_spelling a) × (n ≤ 2147483648)
block_at a p n h =
    let behind : List Mark = sign Comma ∷ At (Number n) p ∷ sign RightBracket ∷ [] in
    let inner : Marks (int_spelling a ++ behind) = marks_rest (sign LeftBracket) (int_spelling a ++ behind) h in
    (marks_left (int_spelling a) behind inner, number_small n (marks_right (int_spelling a) behind inner (At (Number n) p) (inr (inl refl))))

pub inst_args : (i : Ident) (xs : List ArgTree) → Marks (chunk_spelling (InstanceOf i xs)) → (x : ArgTree) → Among x xs → Marks (arg_spelling x)
inst_args i xs h =
    let args : List Mark = separated (Symbol Comma) arg_spelling xs in
    each_separated (Symbol Comma) arg_spelling xs (marks_left args (sign RightParen ∷ []) (marks_rest (sign LeftParen) (args ++ sign RightParen ∷ []) (marks_rest (ident i) (sign LeftParen ∷ (args ++ sign RightParen ∷ [])) h)))
