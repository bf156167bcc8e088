-- How the code reads negations.
use Rattle.std.proofs.Common.{Err, List, Ok, [], ap, arith, length, refl, ℕ, ◌<◌, ◌≡◌}
use Rattle.cyp_lex.specs.Lexemes.{Lexeme}
use Rattle.cyp_lex.specs.Readers.{Read, is_sign, is_word, kind_tells, place_if, sign_token, word_place, ◌>>=◌}
use Rattle.cyp_lex.specs.declared.want.Want.TheVariants.{NoName}
use Rattle.cyp_lex.specs.declared.token.Sign.TheVariants.{LeftParen}
use Rattle.cyp_lex.specs.declared.token.Word.TheVariants.{Not}
use Rattle.cyp_text.specs.ListReaders.{Consumes}
use Rattle.cyp_text.specs.LitReaders.{opening, place_rest}
use Rattle.cyp_text.proofs.Many.{single_consumes}

abbrev rest_in : {A : Type 0} → Read A → List Lexeme
rest_in (Ok x) = x.1
rest_in (Err e) = []

second_takes : (p : ℕ) (r : Read (Unit {0})) (n : ℕ) (x : ℕ) (rest : List Lexeme) → ((u : Unit {0}) (us : List Lexeme) → r ≡ Ok (u, us) → length us < n) → (r >>= place_rest p) ≡ Ok (x, rest) → length rest < n
second_takes p (Ok u) n x rest h e =
    let same : u.1 ≡ rest = ap rest_in e in
    omega (arith, h u.0 u.1 refl, ap length same)
second_takes p (Err s) n x rest h e = absurd cc

first_takes : (r : Read ℕ) (n : ℕ) (x : ℕ) (rest : List Lexeme) → ((p : ℕ) (us : List Lexeme) → r ≡ Ok (p, us) → length us < n) → (r >>= λ y. sign_token LeftParen y.1 >>= place_rest y.0) ≡ Ok (x, rest) → length rest < n
first_takes (Ok y) n x rest h e =
    let short = h y.0 y.1 refl in
    second_takes y.0 (sign_token LeftParen y.1) n x rest (λ u us f. omega (arith, short, single_consumes (kind_tells (is_sign LeftParen)) NoName y.1 u us f)) e
first_takes (Err s) n x rest h e = absurd cc

pub opening_consumes : Consumes opening
opening_consumes ls x rest e = first_takes (word_place Not ls) (length ls) x rest (λ p us f. single_consumes (place_if (is_word Not)) NoName ls p us f) e
