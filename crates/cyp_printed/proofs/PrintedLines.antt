-- The tokens of the text of a specification say what its marks say.
use Rattle.std.proofs.Common.{List, [], ap, append_assoc, append-nil, cond, false, flat_map, inl, inr, length, map, refl, subst, sym, true, ℕ, ◌++◌, ◌∙◌, ◌∷◌, ◌≡◌, ◌⊎◌, Ok, Result}
use Rattle.std.specs.Prelude.{Bool, codes, ◌||◌, ◌&&◌}
use Rattle.cyp_lex.specs.Lexemes.{Lexeme, Said, Symbol, lexeme_of}
use Rattle.cyp_lex.specs.Spelling.{Mark}
use Rattle.cyp_lex.specs.Lexing.{lexed, specification_lexicon, tokens_of}
use Rattle.cyp_lex.specs.declared.fault.Fault.{Fault}
use Rattle.cyp_lex.specs.declared.token.Sign.TheVariants.{Comma, LeftParen, RightBracket, RightParen}
use Rattle.cyp_lex.specs.declared.token.Token.{Token}
use Rattle.cyp_lex.proofs.Laws.{with_front}
use Rattle.cyp_lex.proofs.TokenTexts.{Ends, at_blank, at_bracket, at_comma, at_left, at_line_end, at_right, none_read}
use Rattle.cyp_writing.specs.Printing.{is_closing, is_name, is_opening, is_paren, is_tight, line_of, mark_said, said_text, spaced, spaced_behind}
use Rattle.cyp_term.proofs.Lists.{Among}
use Rattle.cyp_formed.proofs.Maps.{map_then}
use Rattle.cyp_printed.proofs.PrintedTokens.{Reads, reads_blank, reads_both, reads_line_end, reads_none, reads_token}
use Rattle.cyp_spec.proofs.TokenMarks.{AllProper}

-- ---- what follows a token

closing_ends : (k : Said) (bs : List ℕ) → is_closing k ≡ true → Ends (said_text k ++ bs)
closing_ends (Symbol RightParen) bs e = at_right bs
closing_ends (Symbol RightBracket) bs e = at_bracket bs
closing_ends (Symbol Comma) bs e = at_comma bs
closing_ends _ bs e = absurd cc

paren_ends : (k : Said) (bs : List ℕ) → is_paren k ≡ true → Ends (said_text k ++ bs)
paren_ends (Symbol LeftParen) bs e = at_left bs
paren_ends _ bs e = absurd cc

-- what stands between a token and the next one ends the token, unless that is an opening one
gap_ends : (o c n p : Bool) (k : Said) (bs rest : List ℕ) → is_closing k ≡ c → is_paren k ≡ p → (o ≡ true) ⊎ Ends ((cond (o || c || (n && p)) [] (codes " ") ++ said_text k ++ bs) ++ rest)
gap_ends true c n p k bs rest e f = inl refl
gap_ends false true n p k bs rest e f = inr (subst (λ (x : List ℕ). Ends x) (sym (append_assoc (said_text k) bs rest)) (closing_ends k (bs ++ rest) e))
gap_ends false false true true k bs rest e f = inr (subst (λ (x : List ℕ). Ends x) (sym (append_assoc (said_text k) bs rest)) (paren_ends k (bs ++ rest) f))
gap_ends false false true false k bs rest e f = inr (at_blank ((said_text k ++ bs) ++ rest))
gap_ends false false false p k bs rest e f = inr (at_blank ((said_text k ++ bs) ++ rest))

follows : (k : Said) (ks : List Said) (rest : List ℕ) → Ends rest → (is_opening k ≡ true) ⊎ Ends (spaced_behind k ks ++ rest)
follows k [] rest h = inr h
follows k (l ∷ ks) rest h = gap_ends (is_opening k) (is_closing l) (is_name k) (is_paren l) l (spaced_behind l ks) rest refl refl

-- ---- tokens on a line

reads_gap : (t : Bool) (whole front rest : List ℕ) → Reads whole front (cond t [] (codes " ")) rest []
reads_gap true whole front rest = reads_none whole front rest
reads_gap false whole front rest = reads_blank whole front rest

whole_part : (whole front a b rest : List ℕ) → whole ≡ front ++ ((a ++ b) ++ rest) → whole ≡ (front ++ a) ++ (b ++ rest)
whole_part whole front a b rest e = e ∙ ap (λ (bs : List ℕ). front ++ bs) (append_assoc a b rest) ∙ sym (append_assoc front a (b ++ rest))

whole_front : (whole front a b rest : List ℕ) → whole ≡ front ++ ((a ++ b) ++ rest) → whole ≡ front ++ (a ++ (b ++ rest))
whole_front whole front a b rest e = e ∙ ap (λ (bs : List ℕ). front ++ bs) (append_assoc a b rest)

reads_behind : (whole front rest : List ℕ) (j : Said) (ks : List Said) → AllProper ks → Ends rest → whole ≡ front ++ (spaced_behind j ks ++ rest) → Reads whole front (spaced_behind j ks) rest ks
reads_behind whole front rest j [] p h e = reads_none whole front rest
reads_behind whole front rest j (k ∷ ks) p h e =
    let space : List ℕ = cond (is_tight j k) [] (codes " ") in
    let text : List ℕ = said_text k in
    let more : List ℕ = spaced_behind k ks in
    let first : Reads whole front space (text ++ (more ++ rest)) [] = reads_gap (is_tight j k) whole front (text ++ (more ++ rest)) in
    let at_text : whole ≡ (front ++ space) ++ (text ++ (more ++ rest)) =
    whole_part whole front space text (more ++ rest) (whole_front whole front (space ++ text) more rest e) in
    let token : Reads whole (front ++ space) text (more ++ rest) (k ∷ []) = reads_token whole (front ++ space) (more ++ rest) k (p k (inl refl)) (follows k ks rest h) at_text in
    let at_more : whole ≡ (front ++ (space ++ text)) ++ (more ++ rest) = whole_part whole front (space ++ text) more rest e in
    let others : Reads whole (front ++ (space ++ text)) more rest ks = reads_behind whole (front ++ (space ++ text)) rest k ks (λ l m. p l (inr m)) h at_more in
    reads_both whole front (space ++ text) more rest (k ∷ []) ks (reads_both whole front space text (more ++ rest) [] (k ∷ []) first token) others

reads_spaced : (whole front rest : List ℕ) (ks : List Said) → AllProper ks → Ends rest → whole ≡ front ++ (spaced ks ++ rest) → Reads whole front (spaced ks) rest ks
reads_spaced whole front rest [] p h e = reads_none whole front rest
reads_spaced whole front rest (k ∷ ks) p h e =
    let text : List ℕ = said_text k in
    let more : List ℕ = spaced_behind k ks in
    let token : Reads whole front text (more ++ rest) (k ∷ []) = reads_token whole front (more ++ rest) k (p k (inl refl)) (follows k ks rest h) (whole_front whole front text more rest e) in
    reads_both whole front text more rest (k ∷ []) ks token (reads_behind whole (front ++ text) rest k ks (λ l m. p l (inr m)) h (whole_part whole front text more rest e))

-- ---- lines

-- what marks say
abbrev pub saids : List Mark → List Said
saids ms = map mark_said ms

reads_line : (whole front rest : List ℕ) (ms : List Mark) → AllProper (saids ms) → whole ≡ front ++ (line_of ms ++ rest) → Reads whole front (line_of ms) rest (saids ms)
reads_line whole front rest ms p e =
    let text : List ℕ = spaced (saids ms) in
    let tokens : Reads whole front text (10 ∷ rest) (saids ms) = reads_spaced whole front (10 ∷ rest) (saids ms) p (at_line_end rest) (whole_front whole front text (10 ∷ []) rest e) in
    subst (λ (ks : List Said). Reads whole front (line_of ms) rest ks) (append-nil (saids ms)) (reads_both whole front text (10 ∷ []) rest (saids ms) [] tokens (reads_line_end whole (front ++ text) rest))

reads_lines : {A : Type 0} (line : A → List Mark) (whole front rest : List ℕ) (xs : List A) → ((x : A) → Among x xs → AllProper (saids (line x))) → whole ≡ front ++ (flat_map (λ x. line_of (line x)) xs ++ rest)
    → Reads whole front (flat_map (λ x. line_of (line x)) xs) rest (flat_map (λ x. saids (line x)) xs)
reads_lines line whole front rest [] p e = reads_none whole front rest
reads_lines line whole front rest (x ∷ xs) p e =
    let text : List ℕ = line_of (line x) in
    let more : List ℕ = flat_map (λ y. line_of (line y)) xs in
    reads_both whole front text more rest (saids (line x)) (flat_map (λ y. saids (line y)) xs)
    (reads_line whole front (more ++ rest) (line x) (p x (inl refl)) (whole_front whole front text more rest e))
    (reads_lines line whole (front ++ text) rest xs (λ y m. p y (inr m)) (whole_part whole front text more rest e))

-- ---- the text

-- the tokens of the bytes, and that they say this
pub record TextTokens (bytes : List ℕ) (ks : List Said) : Type 0 where
  pub tokens : List Token
  pub lexes : tokens_of bytes ≡ Ok tokens
  pub said : map (λ (l : Lexeme). l.said) (map (lexeme_of bytes) tokens) ≡ ks

whole_text : (bytes : List ℕ) (ks : List Said) → Reads bytes [] bytes [] ks → TextTokens bytes ks
whole_text bytes ks r = record {
  tokens = r.tokens;
  lexes =
      ap (λ (bs : List ℕ). lexed specification_lexicon 0 0 bs) (sym (append-nil bytes)) ∙ r.lexes
      ∙ ap (λ (x : Result (List Token) Fault). with_front r.tokens x) (none_read (length bytes))
      ∙ ap (λ (ts : List Token). Ok ts) (append-nil r.tokens);
  said = map_then (lexeme_of bytes) (λ (l : Lexeme). l.said) (λ t. (lexeme_of bytes t).said) (λ t. refl) r.tokens ∙ r.said;
}

-- lines one after another, and a last one
pub lines_read : {A : Type 0} (line : A → List Mark) (xs : List A) (last : List Mark) → ((x : A) → Among x xs → AllProper (saids (line x))) → AllProper (saids last)
    → TextTokens (flat_map (λ x. line_of (line x)) xs ++ line_of last) (flat_map (λ x. saids (line x)) xs ++ saids last)
lines_read line xs last p q =
    let front : List ℕ = flat_map (λ x. line_of (line x)) xs in
    let text : List ℕ = front ++ line_of last in
    let all : text ≡ front ++ (line_of last ++ []) = ap (λ (bs : List ℕ). front ++ bs) (sym (append-nil (line_of last))) in
    whole_text text (flat_map (λ x. saids (line x)) xs ++ saids last)
    (reads_both text [] front (line_of last) [] (flat_map (λ x. saids (line x)) xs) (saids last) (reads_lines line text [] (line_of last ++ []) xs p all) (reads_line text front [] last q all))
