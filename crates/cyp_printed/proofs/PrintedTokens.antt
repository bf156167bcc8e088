-- The tokens of printed text say what was printed.
use Rattle.std.proofs.Common.{List, [], ap, append_assoc, append-nil, arith, drop, inl, inr, length, length-append, map, refl, sym, take, true, ℕ, suc, ◌+◌, ◌-◌, ◌++◌, ◌∙◌, ◌∷◌, ◌≡◌, ◌⊎◌, Err, Ok, Result}
use Rattle.std.specs.Prelude.{slice_range}
use Rattle.std.proofs.lemmas.List.{map-append}
use Rattle.cyp_lex.specs.Lexemes.{Said, Symbol, lexeme_of, said_by}
use Rattle.cyp_lex.specs.Lexing.{lexed, specification_lexicon, with_token}
use Rattle.cyp_lex.specs.declared.fault.Fault.{Fault}
use Rattle.cyp_lex.specs.declared.token.Sign.TheVariants.{LeftBracket, LeftParen}
use Rattle.cyp_lex.specs.declared.token.Token.{Token}
use Rattle.cyp_lex.specs.declared.token.TokenKind.{TokenKind}
use Rattle.cyp_lex.specs.declared.token.TokenKind.TheVariants as kinds
use Rattle.cyp_lex.proofs.Laws.{with_front}
use Rattle.cyp_lex.proofs.TokenTexts.{Ends, blank_read, line_end_read, open_read, take_front, text_read}
use Rattle.cyp_writing.specs.Printing.{is_opening, said_text}
use Rattle.cyp_spec.proofs.TokenMarks.{Proper, said_kind}

-- the bytes in the middle are read as tokens that say this
pub record Reads (whole front mid rest : List ℕ) (ks : List Said) : Type 0 where
  pub tokens : List Token
  pub lexes : lexed specification_lexicon 0 (length front) (mid ++ rest) ≡ with_front tokens (lexed specification_lexicon 0 (length (front ++ mid)) rest)
  pub said : map (λ t. (lexeme_of whole t).said) tokens ≡ ks

with_none : (r : Result (List Token) Fault) → r ≡ with_front [] r
with_none (Ok ts) = refl
with_none (Err f) = refl

with_two : (xs ys : List Token) (r : Result (List Token) Fault) → with_front xs (with_front ys r) ≡ with_front (xs ++ ys) r
with_two xs ys (Ok ts) = ap (λ (us : List Token). Ok us) (sym (append_assoc xs ys ts))
with_two xs ys (Err f) = refl

with_one : (t : Token) (r : Result (List Token) Fault) → with_token t r ≡ with_front (t ∷ []) r
with_one t (Ok ts) = refl
with_one t (Err f) = refl

-- ---- one behind the other

pub reads_none : (whole front rest : List ℕ) → Reads whole front [] rest []
reads_none whole front rest = record {
  tokens = [];
  lexes = ap (λ (n : ℕ). lexed specification_lexicon 0 n rest) (ap length (sym (append-nil front))) ∙ with_none (lexed specification_lexicon 0 (length (front ++ [])) rest);
  said = refl;
}

pub reads_both : (whole front a b rest : List ℕ) (ks ls : List Said) → Reads whole front a (b ++ rest) ks → Reads whole (front ++ a) b rest ls → Reads whole front (a ++ b) rest (ks ++ ls)
reads_both whole front a b rest ks ls x y = record {
  tokens = x.tokens ++ y.tokens;
  lexes =
      ap (λ (bs : List ℕ). lexed specification_lexicon 0 (length front) bs) (append_assoc a b rest)
      ∙ x.lexes
      ∙ ap (λ (r : Result (List Token) Fault). with_front x.tokens r) y.lexes
      ∙ with_two x.tokens y.tokens (lexed specification_lexicon 0 (length ((front ++ a) ++ b)) rest)
      ∙ ap (λ (bs : List ℕ). with_front (x.tokens ++ y.tokens) (lexed specification_lexicon 0 (length bs) rest)) (append_assoc front a b);
  said = map-append (λ t. (lexeme_of whole t).said) x.tokens y.tokens ∙ ap (λ (zs : List Said). zs ++ map (λ t. (lexeme_of whole t).said) y.tokens) x.said ∙ ap (λ (zs : List Said). ks ++ zs) y.said;
}

pub reads_blank : (whole front rest : List ℕ) → Reads whole front (32 ∷ []) rest []
reads_blank whole front rest = record {
  tokens = [];
  lexes = blank_read rest (length front) ∙ ap (λ (n : ℕ). lexed specification_lexicon 0 n rest) grown ∙ with_none (lexed specification_lexicon 0 (length (front ++ 32 ∷ [])) rest);
  said = refl;
}
  where
    grown : suc (length front) ≡ length (front ++ 32 ∷ [])
    grown = simp length-append (omega arith)

pub reads_line_end : (whole front rest : List ℕ) → Reads whole front (10 ∷ []) rest []
reads_line_end whole front rest = record {
  tokens = [];
  lexes = line_end_read rest (length front) ∙ ap (λ (n : ℕ). lexed specification_lexicon 0 n rest) grown ∙ with_none (lexed specification_lexicon 0 (length (front ++ 10 ∷ [])) rest);
  said = refl;
}
  where
    grown : suc (length front) ≡ length (front ++ 10 ∷ [])
    grown = simp length-append (omega arith)

-- ---- a token

-- the token of these bytes, behind so many
token_of : TokenKind → List ℕ → List ℕ → Token
token_of kind front text = record { kind = kind; start = length front; end = length front + length text }

slice_is : (front text rest : List ℕ) → slice_range (front ++ (text ++ rest)) (length front) (length front + length text) ≡ text
slice_is front text rest =
    ap (λ (n : ℕ). take n (drop (length front) (front ++ (text ++ rest)))) width
    ∙ ap (λ (xs : List ℕ). take (length text) xs) (drop_front front) ∙ take_front text rest
  where
    width : length front + length text - length front ≡ length text
    width = omega arith

    drop_front : (xs : List ℕ) → drop (length xs) (xs ++ (text ++ rest)) ≡ text ++ rest
    drop_front [] = refl
    drop_front (x ∷ xs) = drop_front xs

reads_by : (whole front rest : List ℕ) (k : Said) → Proper k → whole ≡ front ++ (said_text k ++ rest)
    → lexed specification_lexicon 0 (length front) (said_text k ++ rest)
    ≡ with_token (record { kind = said_kind k; start = length front; end = length front + length (said_text k) }) (lexed specification_lexicon 0 (length front + length (said_text k)) rest)
    → Reads whole front (said_text k) rest (k ∷ [])
reads_by whole front rest k p e is = record {
  tokens = record { kind = said_kind k; start = length front; end = length front + length (said_text k) } ∷ [];
  lexes =
      is ∙ with_one _ (lexed specification_lexicon 0 (length front + length (said_text k)) rest)
      ∙ ap (λ (n : ℕ). with_front (record { kind = said_kind k; start = length front; end = length front + length (said_text k) } ∷ []) (lexed specification_lexicon 0 n rest)) grown;
  said = ap (λ (s : Said). s ∷ []) (ap (λ (bs : List ℕ). said_by (said_kind k) bs) whole_slice ∙ p.says);
}
  where
    grown : length front + length (said_text k) ≡ length (front ++ said_text k)
    grown = simp length-append (omega arith)

    whole_slice : slice_range whole (length front) (length front + length (said_text k)) ≡ said_text k
    whole_slice = ap (λ (bs : List ℕ). slice_range bs (length front) (length front + length (said_text k))) e ∙ slice_is front (said_text k) rest

reads_open : (whole front rest : List ℕ) (k : Said) → Proper k → is_opening k ≡ true → whole ≡ front ++ (said_text k ++ rest) → Reads whole front (said_text k) rest (k ∷ [])
reads_open whole front rest (Symbol LeftParen) p o e = reads_by whole front rest (Symbol LeftParen) p e (open_read LeftParen rest refl (length front))
reads_open whole front rest (Symbol LeftBracket) p o e = reads_by whole front rest (Symbol LeftBracket) p e (open_read LeftBracket rest refl (length front))
reads_open whole front rest _ p o e = absurd cc

pub reads_token : (whole front rest : List ℕ) (k : Said) → Proper k → (is_opening k ≡ true) ⊎ Ends rest → whole ≡ front ++ (said_text k ++ rest) → Reads whole front (said_text k) rest (k ∷ [])
reads_token whole front rest k p (inl o) e = reads_open whole front rest k p o e
reads_token whole front rest k p (inr h) e = reads_by whole front rest k p e (text_read (said_kind k) (said_text k) rest p.text_right h (length front))
