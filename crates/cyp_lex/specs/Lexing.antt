-- Which tokens a text has, and its first fault.
use Rattle.std.specs.Prelude.{◌≡◌, ◌≤◌, ◌<◌, ℕ, zero, suc, ◌+◌, ◌-◌, ◌*◌, ◌==◌, Bool, true, false, cond, not, ◌&&◌, ◌||◌, List, [], ◌∷◌, ◌++◌, length, take, drop, nat_le, Option, Some, None, Result, Ok, Err, codes}
use Rattle.std.specs.List.{prefix_len}
use Rattle.std.specs.Str.{bytes_eq}
use Rattle.cyp_term.specs.declared.fail.Fail.{Fail}
use Rattle.cyp_term.specs.declared.fail.Fail.TheVariants.{Named, NoMemory}
use Rattle.cyp_lex.specs.declared.token.Word.{Word}
use Rattle.cyp_lex.specs.declared.token.Word.TheVariants.{Predicate, Void, Loc, Int, Set, Emp, True, Not, In, If, Else, Let, Malloc, Free, Error}
use Rattle.cyp_lex.specs.declared.token.Sign.{Sign}
use Rattle.cyp_lex.specs.declared.token.Sign.TheVariants.{PointsTo, Subset, TwoStars, TwoPluses, Implies, Equal, Unequal, AtMost, AtLeast, SlashAnd, AndAnd, Same, Less, Greater, LeftParen, RightParen, LeftBrace, RightBrace, LeftBracket, RightBracket, Comma, Semicolon, Bar, Plus, Minus, Star, Assign}
use Rattle.cyp_lex.specs.declared.token.TokenKind.{TokenKind}
use Rattle.cyp_lex.specs.declared.token.TokenKind.TheVariants as kinds
use Rattle.cyp_lex.specs.declared.token.Token.{Token}
use Rattle.cyp_lex.specs.declared.fault.FaultKind.TheVariants.{BadByte, NumberRange}
use Rattle.cyp_lex.specs.declared.fault.Fault.{Fault}
use Rattle.cyp_lex.specs.declared.lexer.Piece.{Piece}
use Rattle.cyp_lex.specs.declared.lexer.Piece.TheVariants.{Blank, Begun, Bad}
use Rattle.cyp_lex.specs.Spelled.{word_text, sign_text}

-- the reserved words, which cannot be names
abbrev pub words : List Word
words = Predicate ∷ Void ∷ Loc ∷ Int ∷ Set ∷ Emp ∷ True ∷ Not ∷ In ∷ If ∷ Else ∷ Let ∷ Malloc ∷ Free ∷ Error ∷ []

-- the symbols of a specification, the longest first
abbrev pub signs : List Sign
signs =
    PointsTo ∷ Subset ∷ TwoStars ∷ TwoPluses ∷ Implies ∷ Equal ∷ Unequal ∷ AtMost ∷ AtLeast ∷ SlashAnd ∷ AndAnd ∷ Same ∷ Less ∷ Greater
    ∷ LeftParen ∷ RightParen ∷ LeftBrace ∷ RightBrace ∷ LeftBracket ∷ RightBracket ∷ Comma ∷ Semicolon ∷ Bar ∷ Plus ∷ Minus ∷ []

-- the symbols that a text may have, the longest first, and the greatest number that it may write
pub record Lexicon : Type 0 where
  pub signs : List Sign
  pub greatest : ℕ

-- specifications write numbers up to 2 ^ 31
abbrev pub specification_lexicon : Lexicon
specification_lexicon = record { signs = signs; greatest = 2147483648 }

-- programs have `*` and `=` besides, and write numbers up to 2 ^ 32
abbrev pub program_lexicon : Lexicon
program_lexicon = record { signs = signs ++ Star ∷ Assign ∷ []; greatest = 4294967296 }

-- the byte is one of `0` to `9`
abbrev pub is_digit : ℕ → Bool
is_digit c = nat_le 48 c && nat_le c 57

-- the byte can begin a word or a name: a letter or `_`
abbrev pub is_name_start : ℕ → Bool
is_name_start c = (nat_le 65 c && nat_le c 90) || (nat_le 97 c && nat_le c 122) || (c == 95)

-- the byte can stand in a word or a name behind its first byte: a letter, a digit or `_`
abbrev pub is_name_byte : ℕ → Bool
is_name_byte c = is_name_start c || is_digit c

-- the byte is a space, a tab, a carriage return or a line feed
abbrev pub is_blank : ℕ → Bool
is_blank c = (c == 32) || (c == 9) || (c == 13) || (c == 10)

-- the byte is not a line feed, so that a comment goes on over it
abbrev pub is_no_line_end : ℕ → Bool
is_no_line_end c = not (c == 10)

-- the first word of these with this text, else a name
unfoldable pub name_kind : List Word → List ℕ → TokenKind
name_kind [] text = kinds.Name
name_kind (w ∷ ws) text = cond (bytes_eq text (word_text w)) (kinds.Word w) (name_kind ws text)

-- the first bytes are those of `front`
abbrev pub begins_with : List ℕ → List ℕ → Bool
begins_with bytes front = bytes_eq front (take (length front) bytes)

-- the symbol is `<=i` or `=i`
abbrev pub ends_in_letter : Sign → Bool
ends_in_letter Subset = true
ends_in_letter Same = true
ends_in_letter s = false

-- the first byte is a letter, a digit or `_`
abbrev pub goes_on : List ℕ → Bool
goes_on [] = false
goes_on (b ∷ bs) = is_name_byte b

-- a symbol that ends in a letter stands only where no letter, digit or `_` follows
unfoldable pub stands : Sign → List ℕ → Bool
stands s bytes = begins_with bytes (sign_text s) && not (ends_in_letter s && goes_on (drop (length (sign_text s)) bytes))

-- the first of these symbols that stands at the front of the bytes, if any does
unfoldable pub sign_at : List Sign → List ℕ → Option Sign
sign_at [] bytes = None
sign_at (s ∷ ss) bytes = cond (stands s bytes) (Some s) (sign_at ss bytes)

-- the decimal number whose leading digits have the value `n`, and whose other digits are these bytes
abbrev pub decimal_value : ℕ → List ℕ → ℕ
decimal_value n [] = n
decimal_value n (c ∷ cs) = decimal_value (10 * n + (c - 48)) cs

-- the number, or nothing where it is above the greatest
abbrev pub number_result : ℕ → ℕ → Option ℕ
number_result greatest n = cond (nat_le n greatest) (Some n) None

-- the token of a number with so many digits behind its first, or the fault that it is too great
abbrev pub number_piece : Option ℕ → ℕ → Piece
number_piece None more = Bad NumberRange
number_piece (Some n) more = Begun (kinds.Number n) more

-- the token of a symbol that was found, or the fault that no token begins with this byte
abbrev pub sign_piece : Option Sign → Piece
sign_piece None = Bad BadByte
sign_piece (Some s) = Begun (kinds.Sign s) (length (sign_text s) - 1)

-- the byte and those behind it up to the first that fails the test
abbrev pub run_of : (ℕ → Bool) → ℕ → List ℕ → List ℕ
run_of test b bs = b ∷ take (prefix_len test bs) bs

-- what begins at byte `b`, behind which `bs` stand: a blank, comment, word, name, number, symbol or fault
unfoldable pub piece_at : Lexicon → ℕ → List ℕ → Piece
piece_at lexicon b bs =
    cond (is_blank b) (Blank 0)
    (cond (begins_with (b ∷ bs) (codes "//")) (Blank (prefix_len is_no_line_end bs))
    (cond (is_name_start b) (Begun (name_kind words (run_of is_name_byte b bs)) (prefix_len is_name_byte bs))
    (cond (is_digit b) (number_piece (number_result lexicon.greatest (decimal_value 0 (run_of is_digit b bs))) (prefix_len is_digit bs))
    (sign_piece (sign_at lexicon.signs (b ∷ bs))))))

-- the token before those that were read after it; a fault stays the answer
abbrev pub with_token : Token → Result (List Token) Fault → Result (List Token) Fault
with_token t (Ok ts) = Ok (t ∷ ts)
with_token t (Err f) = Err f

-- the tokens from place p on, or the first fault. So many bytes are left of what was begun
unfoldable pub lexed : Lexicon → ℕ → ℕ → List ℕ → Result (List Token) Fault
lexed lexicon inside p [] = Ok []
lexed lexicon inside p (b ∷ bs) = elim inside [
  | suc k ↦ lexed lexicon k (suc p) bs
  | zero ↦ elim (piece_at lexicon b bs) [
    | Blank k ↦ lexed lexicon k (suc p) bs
    | Begun kind k ↦ with_token (record { kind = kind; start = p; end = p + suc k }) (lexed lexicon k (suc p) bs)
    | Bad kind ↦ Err (record { kind = kind; place = p })
  ]
]

-- all tokens of a specification in their order, or its first fault
abbrev pub tokens_of : List ℕ → Result (List Token) Fault
tokens_of bytes = lexed specification_lexicon 0 0 bytes

-- all tokens of a program in their order, or its first fault
abbrev pub program_tokens_of : List ℕ → Result (List Token) Fault
program_tokens_of bytes = lexed program_lexicon 0 0 bytes

-- a piece is within the bytes
abbrev pub IsWithin : Piece → List ℕ → Type 0
IsWithin (Blank k) bs = k ≤ length bs
IsWithin (Begun kind k) bs = k ≤ length bs
IsWithin (Bad kind) bs = Unit {0}

-- each token is within the text's first so many bytes, has a byte at least, and starts where the one before ends or later
abbrev pub LieInOrder : ℕ → List Token → ℕ → Type 0
LieInOrder from [] all = Unit {0}
LieInOrder from (t ∷ ts) all = (from ≤ t.start) × (t.start < t.end) × (t.end ≤ all) × LieInOrder t.end ts all

-- what was returned is what reading gives, unless memory ran out
abbrev pub Gives : {A : Type 0} → Result A (Fail Fault) → Result A Fault → Type 0
Gives (Ok x) read = read ≡ Ok x
Gives (Err (Named f)) read = read ≡ Err f
Gives (Err NoMemory) read = Unit {0}
