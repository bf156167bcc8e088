-- What the tokens of a specification say: names that aren't reserved, numbers in range, symbols of specifications.
use Rattle.std.proofs.Common.{List, [], ap, append_assoc, arith, cond, drop, false, inl, inr, length, length-append, refl, subst, sym, take, true, ℕ, suc, zero, ◌+◌, ◌-◌, ◌++◌, ◌≤◌, ◌∙◌, ◌∷◌, ◌≡◌, Err, None, Ok, Option, Result, Some}
use Rattle.std.specs.Prelude.{Bool, codes, nat_le, slice_range}
use Rattle.std.specs.List.{list_all, prefix_len}
use Rattle.std.specs.Str.{bytes_eq}
use Rattle.std.proofs.lemmas.Bool.{and_from, and_parts, leb-true}
use Rattle.cyp_term.proofs.Lists.{Among}
use Rattle.cyp_lex.specs.Lexing.{begins_with, decimal_value, is_blank, is_digit, is_name_byte, is_name_start, is_no_line_end, lexed, name_kind, number_piece, number_result, piece_at, run_of, sign_at, sign_piece, signs, specification_lexicon, stands, tokens_of, with_token, words}
use Rattle.cyp_lex.specs.Spelled.{word_text}
use Rattle.cyp_lex.specs.declared.fault.Fault.{Fault}
use Rattle.cyp_lex.specs.declared.lexer.Piece.{Piece}
use Rattle.cyp_lex.specs.declared.lexer.Piece.TheVariants.{Bad, Begun, Blank}
use Rattle.cyp_lex.specs.declared.token.Sign.{Sign}
use Rattle.cyp_lex.specs.declared.token.Token.{Token}
use Rattle.cyp_lex.specs.declared.token.TokenKind.{TokenKind}
use Rattle.cyp_lex.specs.declared.token.TokenKind.TheVariants as kinds
use Rattle.cyp_lex.specs.declared.token.Word.{Word}
use Rattle.cyp_lex.proofs.TokenTexts.{is_written}

-- the token of this kind is right for these bytes
pub data Says : TokenKind → List ℕ → Type 0 where
  says_name : (b : ℕ) (bs : List ℕ) → is_name_start b ≡ true → list_all is_name_byte bs ≡ true → name_kind words (b ∷ bs) ≡ kinds.Name → Says kinds.Name (b ∷ bs)
  says_number : (n : ℕ) (text : List ℕ) → n ≤ 2147483648 → Says (kinds.Number n) text
  says_word : (w : Word) (text : List ℕ) → Says (kinds.Word w) text
  says_sign : (s : Sign) (text : List ℕ) → is_written s ≡ true → Says (kinds.Sign s) text

taken_all : (p : ℕ → Bool) (xs : List ℕ) → list_all p (take (prefix_len p xs) xs) ≡ true
taken_all p [] = refl
taken_all p (x ∷ xs) = by_test (p x) refl (taken_all p xs)
  where
    by_test : (t : Bool) → p x ≡ t → list_all p (take (prefix_len p xs) xs) ≡ true → list_all p (take (cond t (1 + prefix_len p xs) 0) (x ∷ xs)) ≡ true
    by_test false e h = refl
    by_test true e h = rw (one_more (prefix_len p xs)) (and_from (p x) (list_all p (take (prefix_len p xs) xs)) e h)
      where
        one_more : (n : ℕ) → 1 + n ≡ suc n
        one_more n = omega arith

-- a name is a name or a reserved word
name_or_word : (ws : List Word) (b : ℕ) (bs : List ℕ) (kind : TokenKind) → is_name_start b ≡ true → list_all is_name_byte bs ≡ true
    → name_kind ws (b ∷ bs) ≡ kind → (name_kind ws (b ∷ bs) ≡ kinds.Name → name_kind words (b ∷ bs) ≡ kinds.Name) → Says kind (b ∷ bs)
unfolding name_kind
name_or_word [] b bs kind s h e n = subst (λ (k : TokenKind). Says k (b ∷ bs)) e (says_name b bs s h (n refl))
name_or_word (w ∷ ws) b bs kind s h e n = by_test (λ k m. name_or_word ws b bs kind s h k m) (bytes_eq (b ∷ bs) (word_text w)) e n
  where
    by_test : (name_kind ws (b ∷ bs) ≡ kind → (name_kind ws (b ∷ bs) ≡ kinds.Name → name_kind words (b ∷ bs) ≡ kinds.Name) → Says kind (b ∷ bs))
        → (t : Bool) → cond t (kinds.Word w) (name_kind ws (b ∷ bs)) ≡ kind → (cond t (kinds.Word w) (name_kind ws (b ∷ bs)) ≡ kinds.Name → name_kind words (b ∷ bs) ≡ kinds.Name) → Says kind (b ∷ bs)
    by_test ih true k m = subst (λ (k : TokenKind). Says k (b ∷ bs)) k (says_word w (b ∷ bs))
    by_test ih false k m = ih k m

written_at : (ss : List Sign) (bytes : List ℕ) (s : Sign) → list_all is_written ss ≡ true → sign_at ss bytes ≡ Some s → is_written s ≡ true
unfolding sign_at
written_at [] bytes s h e = absurd cc
written_at (r ∷ ss) bytes s h e = by_test (written_at ss bytes s parts.1) (stands r bytes) e
  where
    parts : (is_written r ≡ true) × (list_all is_written ss ≡ true)
    parts = and_parts (is_written r) (list_all is_written ss) h

    by_test : (sign_at ss bytes ≡ Some s → is_written s ≡ true) → (t : Bool) → cond t (Some r) (sign_at ss bytes) ≡ Some s → is_written s ≡ true
    by_test ih true k = let same : r ≡ s = cc in subst (λ (x : Sign). is_written x ≡ true) same parts.0
    by_test ih false k = ih k

number_says : (n b k : ℕ) (bs : List ℕ) (kind : TokenKind) (t : Bool) → nat_le n 2147483648 ≡ t → number_piece (cond t (Some n) None) (prefix_len is_digit bs) ≡ Begun kind k → Says kind (b ∷ take k bs)
number_says n b k bs kind true small e =
    let same : kinds.Number n ≡ kind = cc in
    subst (λ (x : TokenKind). Says x (b ∷ take k bs)) same (says_number n (b ∷ take k bs) (leb-true n 2147483648 small))
number_says n b k bs kind false small e = absurd cc

sign_says : (b k : ℕ) (bs : List ℕ) (kind : TokenKind) (s : Option Sign) → sign_at signs (b ∷ bs) ≡ s → sign_piece s ≡ Begun kind k → Says kind (b ∷ take k bs)
sign_says b k bs kind None is e = absurd cc
sign_says b k bs kind (Some s) is e =
    let same : kinds.Sign s ≡ kind = cc in
    subst (λ (x : TokenKind). Says x (b ∷ take k bs)) same (says_sign s (b ∷ take k bs) (written_at signs (b ∷ bs) s refl is))

-- what begins at a byte is right for its bytes
piece_says : (b k : ℕ) (bs : List ℕ) (kind : TokenKind) → piece_at specification_lexicon b bs ≡ Begun kind k → Says kind (b ∷ take k bs)
unfolding piece_at
piece_says b k bs kind e = by_blank (is_blank b) e
  where
    name_part : Piece
    name_part = Begun (name_kind words (run_of is_name_byte b bs)) (prefix_len is_name_byte bs)

    number_part : Piece
    number_part = number_piece (number_result specification_lexicon.greatest (decimal_value 0 (run_of is_digit b bs))) (prefix_len is_digit bs)

    sign_part : Piece
    sign_part = sign_piece (sign_at signs (b ∷ bs))

    by_digit : (t : Bool) → cond t number_part sign_part ≡ Begun kind k → Says kind (b ∷ take k bs)
    by_digit true h = number_says (decimal_value 0 (run_of is_digit b bs)) b k bs kind (nat_le (decimal_value 0 (run_of is_digit b bs)) 2147483648) refl h
    by_digit false h = sign_says b k bs kind (sign_at signs (b ∷ bs)) refl h

    by_start : (t : Bool) → is_name_start b ≡ t → cond t name_part (cond (is_digit b) number_part sign_part) ≡ Begun kind k → Says kind (b ∷ take k bs)
    by_start true s h =
        let length_is : prefix_len is_name_byte bs ≡ k = cc in
        let kind_is : name_kind words (b ∷ take k bs) ≡ kind = ap (λ (n : ℕ). name_kind words (b ∷ take n bs)) (sym length_is) ∙ cc in
        name_or_word words b (take k bs) kind s (subst (λ (n : ℕ). list_all is_name_byte (take n bs) ≡ true) length_is (taken_all is_name_byte bs)) kind_is (λ n. n)
    by_start false s h = by_digit (is_digit b) h

    by_comment : (t : Bool) → cond t (Blank (prefix_len is_no_line_end bs)) (cond (is_name_start b) name_part (cond (is_digit b) number_part sign_part)) ≡ Begun kind k → Says kind (b ∷ take k bs)
    by_comment true h = absurd cc
    by_comment false h = by_start (is_name_start b) refl h

    by_blank : (t : Bool) → cond t (Blank 0) (cond (begins_with (b ∷ bs) (codes "//")) (Blank (prefix_len is_no_line_end bs)) (cond (is_name_start b) name_part (cond (is_digit b) number_part sign_part))) ≡ Begun kind k
        → Says kind (b ∷ take k bs)
    by_blank true h = absurd cc
    by_blank false h = by_comment (begins_with (b ∷ bs) (codes "//")) h

-- ---- all tokens

token_bytes : (front bs : List ℕ) (b k : ℕ) → slice_range (front ++ (b ∷ bs)) (length front) (length front + suc k) ≡ b ∷ take k bs
token_bytes front bs b k = ap (λ (n : ℕ). take n (drop (length front) (front ++ (b ∷ bs)))) width ∙ ap (λ (xs : List ℕ). take (suc k) xs) (drop_front front)
  where
    width : length front + suc k - length front ≡ suc k
    width = omega arith

    drop_front : (xs : List ℕ) → drop (length xs) (xs ++ (b ∷ bs)) ≡ b ∷ bs
    drop_front [] = refl
    drop_front (x ∷ xs) = drop_front xs

-- each of the tokens is right for its bytes
abbrev pub AllSay : List ℕ → List Token → Type 0
AllSay whole ts = (t : Token) → Among t ts → Says t.kind (slice_range whole t.start t.end)

-- the rest of the bytes, whose tokens are right for them
record Rest (front bs : List ℕ) (b : ℕ) : Type 0 where
  says : (inside : ℕ) (ts : List Token) → lexed specification_lexicon inside (suc (length front)) bs ≡ Ok ts → AllSay (front ++ (b ∷ bs)) ts

with_front_says : (front bs : List ℕ) (b k : ℕ) (kind : TokenKind) (r : Result (List Token) Fault) → lexed specification_lexicon k (suc (length front)) bs ≡ r → Rest front bs b
    → piece_at specification_lexicon b bs ≡ Begun kind k → (ts : List Token) → with_token (record { kind = kind; start = length front; end = length front + suc k }) r ≡ Ok ts → AllSay (front ++ (b ∷ bs)) ts
with_front_says front bs b k kind (Err f) e h p ts is = absurd cc
with_front_says front bs b k kind (Ok us) e h p ts is =
    let parts : record { kind = kind; start = length front; end = length front + suc k } ∷ us ≡ ts = cc in
    subst (λ (all : List Token). AllSay (front ++ (b ∷ bs)) all) parts by_case
  where
    by_case : AllSay (front ++ (b ∷ bs)) (record { kind = kind; start = length front; end = length front + suc k } ∷ us)
    by_case t (inl s) = rw s (subst (λ (xs : List ℕ). Says kind xs) (sym (token_bytes front bs b k)) (piece_says b k bs kind p))
    by_case t (inr m) = h.says k us e t m

by_piece : (front bs : List ℕ) (b : ℕ) (inside : ℕ) (piece : Piece) → piece_at specification_lexicon b bs ≡ piece → Rest front bs b → (ts : List Token) → lexed specification_lexicon inside (length front) (b ∷ bs) ≡ Ok ts
    → AllSay (front ++ (b ∷ bs)) ts
unfolding lexed
by_piece front bs b (suc k) piece p h ts e = h.says k ts e
by_piece front bs b zero (Blank k) p h ts e = h.says k ts (rw (p, lexed) at e)
by_piece front bs b zero (Begun kind k) p h ts e = with_front_says front bs b k kind (lexed specification_lexicon k (suc (length front)) bs) refl h p ts (rw (p, lexed) at e)
by_piece front bs b zero (Bad kind) p h ts e = let wrong = rw (p, lexed) at e in absurd cc

all_say : (bytes front : List ℕ) (inside : ℕ) (ts : List Token) → lexed specification_lexicon inside (length front) bytes ≡ Ok ts → AllSay (front ++ bytes) ts
unfolding lexed
all_say [] front inside ts e = λ t m. let none : [] ≡ ts = cc in absurd (subst (λ (us : List Token). Among t us) (sym none) m)
all_say (b ∷ bs) front inside ts e =
    by_piece front bs b inside (piece_at specification_lexicon b bs) refl
    (record { says = λ k us i. subst (λ (all : List ℕ). AllSay all us) (append_assoc front (b ∷ []) bs) (all_say bs (front ++ b ∷ []) k us (subst (λ (n : ℕ). lexed specification_lexicon k n bs ≡ Ok us) grown i)) }) ts e
  where
    grown : suc (length front) ≡ length (front ++ b ∷ [])
    grown = simp length-append (omega arith)

pub tokens_say : (bytes : List ℕ) (ts : List Token) → tokens_of bytes ≡ Ok ts → AllSay bytes ts
tokens_say bytes ts e = all_say bytes [] 0 ts e
