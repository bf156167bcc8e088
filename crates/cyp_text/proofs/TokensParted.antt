-- Tokens parted at a place, and the lexemes of the parts.
use Rattle.std.proofs.Common.{List, [], ap, arith, drop, get_or, length, length-drop, map, refl, suc, sym, take, ℕ, ◌++◌, ◌-◌, ◌<◌, ◌≤◌, ◌∙◌, ◌∷◌, ◌≡◌}
use Rattle.std.proofs.lemmas.List.{length-map, map-append, take-append-drop, take_all}
use Rattle.std.proofs.Math.Seq.{drop-cons, take-suc}
use Rattle.cyp_lex.specs.Lexemes.{Lexeme, Said, lexeme_of}
use Rattle.cyp_lex.specs.declared.token.Token.{Token}
use Rattle.cyp_lex.specs.declared.token.TokenKind.TheVariants as kinds
use Rattle.cyp_text.specs.GrammarFaults.{backwards}

-- a token that stands for none
abbrev pub no_token : Token
no_token = record { kind = kinds.Name; start = 0; end = 0 }

-- the first so many tokens and one more
one_more : (xs : List Token) (j n : ℕ) → suc j ≡ n → j < length xs → take n xs ≡ take j xs ++ get_or xs j no_token ∷ []
one_more xs j n e l = ap (λ (k : ℕ). take k xs) (sym e) ∙ take-suc xs j no_token l

more_lexemes : (text : List ℕ) (xs : List Token) (j n : ℕ) → suc j ≡ n → j < length xs
    → map (lexeme_of text) (take n xs) ≡ map (lexeme_of text) (take j xs) ++ lexeme_of text (get_or xs j no_token) ∷ []
more_lexemes text xs j n e l = ap (λ (ys : List Token). map (lexeme_of text) ys) (one_more xs j n e l) ∙ map-append (lexeme_of text) (take j xs) (get_or xs j no_token ∷ [])

-- the last token
pub last_lexemes : (text : List ℕ) (xs : List Token) → 1 ≤ length xs
    → map (lexeme_of text) xs ≡ map (lexeme_of text) (take (length xs - 1) xs) ++ lexeme_of text (get_or xs (length xs - 1) no_token) ∷ []
last_lexemes text xs l =
    ap (λ (ys : List Token). map (lexeme_of text) ys) (sym (take_all (length xs) xs (omega arith)))
    ∙ more_lexemes text xs (length xs - 1) (length xs) (omega (arith, l)) (omega (arith, l))

backwards_last : (back : List Said) (ls : List Lexeme) (l : Lexeme) → backwards back (ls ++ l ∷ []) ≡ l.said ∷ backwards back ls
backwards_last back [] l = refl
backwards_last back (k ∷ ls) l = backwards_last (k.said ∷ back) ls l

-- the last two
pub last_two : (text : List ℕ) (xs : List Token) → 2 ≤ length xs
    → backwards [] (map (lexeme_of text) xs)
    ≡ (lexeme_of text (get_or xs (length xs - 1) no_token)).said ∷ (lexeme_of text (get_or xs (length xs - 2) no_token)).said ∷ backwards [] (map (lexeme_of text) (take (length xs - 2) xs))
last_two text xs l =
    ap (λ (ls : List Lexeme). backwards [] ls) (last_lexemes text xs (omega (arith, l)))
    ∙ backwards_last [] (map (lexeme_of text) (take (length xs - 1) xs)) (lexeme_of text (get_or xs (length xs - 1) no_token))
    ∙ ap (λ (ls : List Lexeme). (lexeme_of text (get_or xs (length xs - 1) no_token)).said ∷ backwards [] ls)
    (more_lexemes text xs (length xs - 2) (length xs - 1) (omega (arith, l)) (omega (arith, l)))
    ∙ ap (λ (ss : List Said). (lexeme_of text (get_or xs (length xs - 1) no_token)).said ∷ ss)
    (backwards_last [] (map (lexeme_of text) (take (length xs - 2) xs)) (lexeme_of text (get_or xs (length xs - 2) no_token)))

-- parted at a place
pub parted_lexemes : (text : List ℕ) (xs : List Token) (n : ℕ) → map (lexeme_of text) xs ≡ map (lexeme_of text) (take n xs) ++ map (lexeme_of text) (drop n xs)
parted_lexemes text xs n = ap (λ (ys : List Token). map (lexeme_of text) ys) (sym (take-append-drop n xs)) ∙ map-append (lexeme_of text) (take n xs) (drop n xs)

pub rest_length : (text : List ℕ) (xs : List Token) (left : ℕ) → left ≤ length xs → left ≡ length (map (lexeme_of text) (drop (length xs - left) xs))
rest_length text xs left l = omega (arith, l, length-map (drop (length xs - left) xs) (lexeme_of text), length-drop (length xs - left) xs)

-- the token at a place is the first of the rest
pub rest_lexemes : (text : List ℕ) (xs : List Token) (n : ℕ) → n < length xs
    → map (lexeme_of text) (drop n xs) ≡ lexeme_of text (get_or xs n no_token) ∷ map (lexeme_of text) (drop (suc n) xs)
rest_lexemes text xs n l = ap (λ (ys : List Token). map (lexeme_of text) ys) (drop-cons xs n no_token l)
