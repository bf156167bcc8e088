-- The text of a token is read as that token, where it ends before what follows it.
use Rattle.std.proofs.Common.{List, [], ap, arith, drop, false, get_or, length, length-append, refl, sym, take, true, ℕ, suc, ◌*◌, ◌+◌, ◌-◌, ◌++◌, ◌<◌, ◌≤◌, ◌∙◌, ◌∷◌, ◌≡◌, Ok, Result}
use Rattle.std.specs.Prelude.{Bool, codes, decimal, ◌/◌, ◌%◌, ◌^◌}
use Rattle.std.specs.List.{list_all, prefix_len}
use Rattle.std.proofs.lemmas.Bool.{and_from, and_parts, le-leb}
use Rattle.std.proofs.lemmas.Bool.Decides.{nat_tests}
use Rattle.std.proofs.lemmas.Fmt.{decimal_by_steps}
use Rattle.cyp_lex.specs.Lexing.{begins_with, decimal_value, is_blank, is_digit, is_name_byte, is_name_start, lexed, name_kind, piece_at, run_of, sign_at, specification_lexicon, stands, with_token, words}
use Rattle.cyp_lex.specs.Spelled.{sign_text, word_text}
use Rattle.cyp_lex.specs.declared.fault.Fault.{Fault}
use Rattle.cyp_lex.specs.declared.lexer.Piece.TheVariants.{Begun}
use Rattle.cyp_lex.specs.declared.token.Sign.{Sign}
use Rattle.cyp_lex.specs.declared.token.Sign.TheVariants.{Assign, LeftBracket, LeftParen, Star}
use Rattle.cyp_lex.specs.declared.token.Token.{Token}
use Rattle.cyp_lex.specs.declared.token.TokenKind.{TokenKind}
use Rattle.cyp_lex.specs.declared.token.TokenKind.TheVariants as kinds
use Rattle.cyp_lex.specs.declared.token.Word.{Word}
use Rattle.cyp_lex.specs.declared.token.Word.TheVariants as the_words
use Rattle.cyp_lex.proofs.Laws.{passes}

-- a blank, a line end, a parenthesis, `]`, `,` or nothing: no token goes on over it
pub data Ends : List ℕ → Type 0 where
  at_end : Ends []
  at_blank : (r : List ℕ) → Ends (32 ∷ r)
  at_line_end : (r : List ℕ) → Ends (10 ∷ r)
  at_left : (r : List ℕ) → Ends (40 ∷ r)
  at_right : (r : List ℕ) → Ends (41 ∷ r)
  at_bracket : (r : List ℕ) → Ends (93 ∷ r)
  at_comma : (r : List ℕ) → Ends (44 ∷ r)

-- the symbol is one of specifications
abbrev pub is_written : Sign → Bool
is_written Star = false
is_written Assign = false
is_written _ = true

-- the token of these bytes begins with the first of them and ends before the rest
record Found (kind : TokenKind) (text rest : List ℕ) : Type 0 where
  first : ℕ
  more : List ℕ
  parts : text ≡ first ∷ more
  piece : piece_at specification_lexicon first (more ++ rest) ≡ Begun kind (length more)

-- ---- runs of bytes

run_ends : (p : ℕ → Bool) (xs rest : List ℕ) → list_all p xs ≡ true → prefix_len p rest ≡ 0 → prefix_len p (xs ++ rest) ≡ length xs
run_ends p [] rest h e = e
run_ends p (x ∷ xs) rest h e =
    let parts = and_parts (p x) (list_all p xs) h in
    rw parts.0 (omega (arith, run_ends p xs rest parts.1 e))

pub take_front : (xs rest : List ℕ) → take (length xs) (xs ++ rest) ≡ xs
take_front [] rest = refl
take_front (x ∷ xs) rest = ap (λ (ys : List ℕ). x ∷ ys) (take_front xs rest)

run_is : (p : ℕ → Bool) (b : ℕ) (xs rest : List ℕ) → list_all p xs ≡ true → prefix_len p rest ≡ 0 → run_of p b (xs ++ rest) ≡ b ∷ xs
run_is p b xs rest h e = ap (λ (n : ℕ). b ∷ take n (xs ++ rest)) (run_ends p xs rest h e) ∙ ap (λ (ys : List ℕ). b ∷ ys) (take_front xs rest)

name_ends : (rest : List ℕ) → Ends rest → prefix_len is_name_byte rest ≡ 0
name_ends rest at_end = refl
name_ends rest (at_blank r) = refl
name_ends rest (at_line_end r) = refl
name_ends rest (at_left r) = refl
name_ends rest (at_right r) = refl
name_ends rest (at_bracket r) = refl
name_ends rest (at_comma r) = refl

digits_end : (rest : List ℕ) → Ends rest → prefix_len is_digit rest ≡ 0
digits_end rest at_end = refl
digits_end rest (at_blank r) = refl
digits_end rest (at_line_end r) = refl
digits_end rest (at_left r) = refl
digits_end rest (at_right r) = refl
digits_end rest (at_bracket r) = refl
digits_end rest (at_comma r) = refl

-- ---- first bytes

start_no_blank : (b : ℕ) → is_name_start b ≡ true → is_blank b ≡ false
start_no_blank b h = grind (arith, nat_tests)

start_no_slash : (b : ℕ) (bs : List ℕ) → is_name_start b ≡ true → begins_with (b ∷ bs) (codes "//") ≡ false
start_no_slash b bs h = grind (arith, nat_tests)

digit_no_blank : (b : ℕ) → is_digit b ≡ true → is_blank b ≡ false
digit_no_blank b h = grind (arith, nat_tests)

digit_no_slash : (b : ℕ) (bs : List ℕ) → is_digit b ≡ true → begins_with (b ∷ bs) (codes "//") ≡ false
digit_no_slash b bs h = grind (arith, nat_tests)

digit_no_start : (b : ℕ) → is_digit b ≡ true → is_name_start b ≡ false
digit_no_start b h = grind (arith, nat_tests)

-- ---- names and words

worded : (b : ℕ) (bs rest : List ℕ) (kind : TokenKind) → is_name_start b ≡ true → list_all is_name_byte bs ≡ true → name_kind words (b ∷ bs) ≡ kind → Ends rest
    → piece_at specification_lexicon b (bs ++ rest) ≡ Begun kind (length bs)
unfolding piece_at
worded b bs rest kind s h k e =
    rw (start_no_blank b s, start_no_slash b (bs ++ rest) s, s, run_is is_name_byte b bs rest h (name_ends rest e), k, run_ends is_name_byte bs rest h (name_ends rest e)) refl

-- ---- numbers

-- the digits have this value
abbrev IsDecimal : ℕ → List ℕ → Type 0
IsDecimal n ds = (list_all is_digit ds ≡ true) × (decimal_value 0 ds ≡ n) × (0 < length ds)

more_digits : (m c : ℕ) (ds : List ℕ) → decimal_value m (ds ++ c ∷ []) ≡ 10 * decimal_value m ds + (c - 48)
more_digits m c [] = refl
more_digits m c (d ∷ ds) = more_digits (10 * m + (d - 48)) c ds

digit_byte : (d : ℕ) → d < 10 → is_digit (48 + d) ≡ true
digit_byte d h = grind (arith, nat_tests)

all_snoc : (p : ℕ → Bool) (ds : List ℕ) (c : ℕ) → list_all p ds ≡ true → p c ≡ true → list_all p (ds ++ c ∷ []) ≡ true
all_snoc p [] c h e = and_from (p c) true e refl
all_snoc p (d ∷ ds) c h e =
    let parts = and_parts (p d) (list_all p ds) h in
    and_from (p d) (list_all p (ds ++ c ∷ [])) parts.0 (all_snoc p ds c parts.1 e)

one_digit : (n : ℕ) → n < 10 → IsDecimal n ((48 + n) ∷ [])
one_digit n h = (and_from _ true (digit_byte n h) refl, omega arith, omega arith)

next_digit : (n : ℕ) (ds : List ℕ) → 10 ≤ n → IsDecimal (n / 10) ds → IsDecimal n (ds ++ ((48 + n % 10) ∷ []))
next_digit n ds h k =
    let last : n % 10 < 10 = omega arith in
    let sums : 10 * decimal_value 0 ds + (48 + n % 10 - 48) ≡ n = rw k.1 (omega arith) in
    (all_snoc is_digit ds (48 + n % 10) k.0 (digit_byte (n % 10) last), more_digits 0 (48 + n % 10) ds ∙ sums, simp length-append (omega arith))

is_decimal : (n : ℕ) → n < 2 ^ 64 → IsDecimal n (decimal n)
is_decimal = decimal_by_steps IsDecimal one_digit next_digit

pub decimal_digits : (n : ℕ) → n < 2 ^ 64 → list_all is_digit (decimal n) ≡ true
decimal_digits n h = (is_decimal n h).0

number_from : (n b : ℕ) (bs rest : List ℕ) → n ≤ 2147483648 → IsDecimal n (b ∷ bs) → Ends rest → piece_at specification_lexicon b (bs ++ rest) ≡ Begun (kinds.Number n) (length bs)
unfolding piece_at
number_from n b bs rest small d e =
    let digits = and_parts (is_digit b) (list_all is_digit bs) d.0 in
    rw (
      digit_no_blank b digits.0,
      digit_no_slash b (bs ++ rest) digits.0,
      digit_no_start b digits.0,
      digits.0,
      run_is is_digit b bs rest digits.1 (digits_end rest e),
      d.1,
      le-leb n 2147483648 small,
      run_ends is_digit bs rest digits.1 (digits_end rest e),
    ) refl

number_found : (n : ℕ) (ds rest : List ℕ) → n ≤ 2147483648 → IsDecimal n ds → Ends rest → Found (kinds.Number n) ds rest
number_found n [] rest small d e = absurd (omega (arith, d.2))
number_found n (b ∷ bs) rest small d e = record { first = b; more = bs; parts = refl; piece = number_from n b bs rest small d e }

-- ---- symbols

-- `(` and `[` end before anything, and each other symbol before what ends tokens
sign_found : (s : Sign) (rest : List ℕ) → is_written s ≡ true → Ends rest → Found (kinds.Sign s) (sign_text s) rest
unfolding piece_at sign_at stands
sign_found Star rest w e = absurd cc
sign_found Assign rest w e = absurd cc
sign_found s rest w at_end = record { first = get_or (sign_text s) 0 0; more = drop 1 (sign_text s); parts = refl; piece = refl }
sign_found s rest w (at_blank r) = record { first = get_or (sign_text s) 0 0; more = drop 1 (sign_text s); parts = refl; piece = refl }
sign_found s rest w (at_line_end r) = record { first = get_or (sign_text s) 0 0; more = drop 1 (sign_text s); parts = refl; piece = refl }
sign_found s rest w (at_left r) = record { first = get_or (sign_text s) 0 0; more = drop 1 (sign_text s); parts = refl; piece = refl }
sign_found s rest w (at_right r) = record { first = get_or (sign_text s) 0 0; more = drop 1 (sign_text s); parts = refl; piece = refl }
sign_found s rest w (at_bracket r) = record { first = get_or (sign_text s) 0 0; more = drop 1 (sign_text s); parts = refl; piece = refl }
sign_found s rest w (at_comma r) = record { first = get_or (sign_text s) 0 0; more = drop 1 (sign_text s); parts = refl; piece = refl }

left_paren_found : (rest : List ℕ) → Found (kinds.Sign LeftParen) (sign_text LeftParen) rest
unfolding piece_at sign_at stands
left_paren_found rest = record { first = 40; more = []; parts = refl; piece = refl }

left_bracket_found : (rest : List ℕ) → Found (kinds.Sign LeftBracket) (sign_text LeftBracket) rest
unfolding piece_at sign_at stands
left_bracket_found rest = record { first = 91; more = []; parts = refl; piece = refl }

word_found : (w : Word) (rest : List ℕ) → Ends rest → Found (kinds.Word w) (word_text w) rest
unfolding name_kind
word_found w rest e = record {
  first = get_or (word_text w) 0 0;
  more = drop 1 (word_text w);
  parts = parts w;
  piece = worded (get_or (word_text w) 0 0) (drop 1 (word_text w)) rest (kinds.Word w) (starts w) (goes w) (kind w) e;
}
  where
    parts : (w : Word) → word_text w ≡ get_or (word_text w) 0 0 ∷ drop 1 (word_text w)
    parts the_words.Predicate = refl
    parts _ = refl

    starts : (w : Word) → is_name_start (get_or (word_text w) 0 0) ≡ true
    starts the_words.Predicate = refl
    starts _ = refl

    goes : (w : Word) → list_all is_name_byte (drop 1 (word_text w)) ≡ true
    goes the_words.Predicate = refl
    goes _ = refl

    kind : (w : Word) → name_kind words (get_or (word_text w) 0 0 ∷ drop 1 (word_text w)) ≡ kinds.Word w
    kind the_words.Predicate = refl
    kind _ = refl

-- ---- tokens

found_read : (kind : TokenKind) (text rest : List ℕ) → Found kind text rest → (p : ℕ)
    → lexed specification_lexicon 0 p (text ++ rest) ≡ with_token (record { kind = kind; start = p; end = p + length text }) (lexed specification_lexicon 0 (p + length text) rest)
unfolding lexed
found_read kind text rest f p =
    ap (λ (bs : List ℕ). lexed specification_lexicon 0 p (bs ++ rest)) f.parts ∙ from_first
    ∙ ap (λ (bs : List ℕ). with_token (record { kind = kind; start = p; end = p + length bs }) (lexed specification_lexicon 0 (p + length bs) rest)) (sym f.parts)
  where
    token : ℕ → Token
    token e = record { kind = kind; start = p; end = e }

    drop_front : (xs : List ℕ) → drop (length xs) (xs ++ rest) ≡ rest
    drop_front [] = refl
    drop_front (x ∷ xs) = drop_front xs

    sums : suc p + length f.more ≡ p + suc (length f.more)
    sums = omega arith

    passed : lexed specification_lexicon (length f.more) (suc p) (f.more ++ rest) ≡ lexed specification_lexicon 0 (p + suc (length f.more)) rest
    passed =
        passes specification_lexicon (length f.more) (suc p) (f.more ++ rest)
        ∙ ap (λ (bs : List ℕ). lexed specification_lexicon 0 (suc p + length f.more) bs) (drop_front f.more)
        ∙ ap (λ (n : ℕ). lexed specification_lexicon 0 n rest) sums

    from_first : lexed specification_lexicon 0 p (f.first ∷ (f.more ++ rest)) ≡ with_token (token (p + suc (length f.more))) (lexed specification_lexicon 0 (p + suc (length f.more)) rest)
    from_first = rw (f.piece, lexed) (ap (λ (r : Result (List Token) Fault). with_token (token (p + suc (length f.more))) r) passed)

-- the text by which a token of this kind is printed
pub data IsText : TokenKind → List ℕ → Type 0 where
  a_name : (b : ℕ) (bs : List ℕ) → is_name_start b ≡ true → list_all is_name_byte bs ≡ true → name_kind words (b ∷ bs) ≡ kinds.Name → IsText kinds.Name (b ∷ bs)
  a_number : (n : ℕ) → n ≤ 2147483648 → IsText (kinds.Number n) (decimal n)
  a_word : (w : Word) → IsText (kinds.Word w) (word_text w)
  a_sign : (s : Sign) → is_written s ≡ true → IsText (kinds.Sign s) (sign_text s)

-- the token is `(` or `[`
abbrev pub opens : TokenKind → Bool
opens (kinds.Sign LeftParen) = true
opens (kinds.Sign LeftBracket) = true
opens _ = false

text_found : (kind : TokenKind) (text rest : List ℕ) → IsText kind text → Ends rest → Found kind text rest
text_found kind text rest (a_name b bs s h k) e = record { first = b; more = bs; parts = refl; piece = worded b bs rest kinds.Name s h k e }
text_found kind text rest (a_number n small) e = number_found n (decimal n) rest small (is_decimal n (omega arith)) e
text_found kind text rest (a_word w) e = word_found w rest e
text_found kind text rest (a_sign s w) e = sign_found s rest w e

-- the text is read as its token, where what follows ends it
pub text_read : (kind : TokenKind) (text rest : List ℕ) → IsText kind text → Ends rest → (p : ℕ)
    → lexed specification_lexicon 0 p (text ++ rest) ≡ with_token (record { kind = kind; start = p; end = p + length text }) (lexed specification_lexicon 0 (p + length text) rest)
text_read kind text rest t e = found_read kind text rest (text_found kind text rest t e)

-- `(` and `[` are read whatever follows
pub open_read : (s : Sign) (rest : List ℕ) → opens (kinds.Sign s) ≡ true → (p : ℕ)
    → lexed specification_lexicon 0 p (sign_text s ++ rest)
    ≡ with_token (record { kind = kinds.Sign s; start = p; end = p + length (sign_text s) }) (lexed specification_lexicon 0 (p + length (sign_text s)) rest)
open_read LeftParen rest o = found_read (kinds.Sign LeftParen) (sign_text LeftParen) rest (left_paren_found rest)
open_read LeftBracket rest o = found_read (kinds.Sign LeftBracket) (sign_text LeftBracket) rest (left_bracket_found rest)
open_read _ rest o = absurd cc

-- a blank and a line end are passed over
pub blank_read : (rest : List ℕ) (p : ℕ) → lexed specification_lexicon 0 p (32 ∷ rest) ≡ lexed specification_lexicon 0 (suc p) rest
unfolding lexed piece_at
blank_read rest p = refl

pub line_end_read : (rest : List ℕ) (p : ℕ) → lexed specification_lexicon 0 p (10 ∷ rest) ≡ lexed specification_lexicon 0 (suc p) rest
unfolding lexed piece_at
line_end_read rest p = refl

pub none_read : (p : ℕ) → lexed specification_lexicon 0 p [] ≡ Ok []
unfolding lexed
none_read p = refl
