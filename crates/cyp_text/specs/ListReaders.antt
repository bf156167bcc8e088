-- How lists of parts are read one part after another.
use Rattle.std.specs.Prelude.{[], Bool, Err, List, Ok, Result, false, length, suc, true, zero, ℕ, ◌++◌, ◌<◌, ◌≤◌, ◌∷◌, ◌≡◌}
use Rattle.cyp_lex.specs.Lexemes.{Lexeme, Said}
use Rattle.cyp_lex.specs.Readers.{Read, heads, is_sign, listing, mapped, sign_token, stop, ◌>>=◌}
use Rattle.cyp_lex.specs.declared.want.Want.{Want}
use Rattle.cyp_lex.specs.declared.want.Want.TheVariants.{NoName}
use Rattle.cyp_lex.specs.declared.token.Sign.{Sign}
use Rattle.cyp_term.specs.declared.fail.Fail.{Fail}
use Rattle.cyp_text.specs.Parsing.{Gives}

-- what is read takes a lexeme at least
abbrev pub Consumes : {A : Type 0} → (List Lexeme → Read A) → Type 0
Consumes {A} p = (ls : List Lexeme) (x : A) (rest : List Lexeme) → p ls ≡ Ok (x, rest) → length rest < length ls

-- a lexeme at least was taken, if anything was read
abbrev pub IsShorter : {A E : Type 0} → Result A E → List Lexeme → List Lexeme → Type 0
IsShorter (Ok x) before after = length after < length before
IsShorter (Err e) before after = Unit {0}

-- where none of these lexemes is first, the reader stops at once, and wants this
abbrev pub Refuses : {A : Type 0} → Want → (Said → Bool) → (List Lexeme → Read A) → Type 0
Refuses want starts p = (ls : List Lexeme) → heads starts ls ≡ false → p ls ≡ stop want ls

-- an item before the others
abbrev pub cons_rest : {A : Type 0} → A → List A × List Lexeme → Read (List A)
cons_rest a y = Ok (a ∷ y.0, y.1)

-- nothing more, or an item and then the others
abbrev pub more_by : {A : Type 0} → (List Lexeme → Read (List A)) → (List Lexeme → Read A) → List Lexeme → Bool → Read (List A)
more_by others p ls false = Ok ([], ls)
more_by others p ls true = p ls >>= λ x. others x.1 >>= cons_rest x.0

-- items as long as the test knows the first lexeme; the number is above that of the lexemes
abbrev pub many_in : {A : Type 0} → ℕ → (Said → Bool) → (List Lexeme → Read A) → List Lexeme → Read (List A)
many_in zero starts p ls = stop NoName ls
many_in (suc n) starts p ls = more_by (many_in n starts p) p ls (heads starts ls)

-- items as long as the test knows the first lexeme
abbrev pub many : {A : Type 0} → (Said → Bool) → (List Lexeme → Read A) → List Lexeme → Read (List A)
many starts p ls = many_in (suc (length ls)) starts p ls

-- all of them
abbrev pub append_rest : {A : Type 0} → List A → List A × List Lexeme → Read (List A)
append_rest xs y = Ok (xs ++ y.0, y.1)

-- what is read stands behind these
abbrev pub with_front : {A : Type 0} → List A → Read (List A) → Read (List A)
with_front xs r = r >>= append_rest xs

-- a part behind a symbol
abbrev pub behind : {A : Type 0} → Sign → (List Lexeme → Read A) → List Lexeme → Read A
behind s p ls = sign_token s ls >>= λ x. p x.1

-- no other part, or a symbol, a part and the others; the number is above that of the lexemes behind the symbol
abbrev pub others_by : {A : Type 0} → ℕ → Sign → (List Lexeme → Read A) → List Lexeme → Bool → Read (List A)
others_by n s p ls false = Ok ([], ls)
others_by zero s p ls true = sign_token s ls >>= λ x. stop NoName x.1
others_by (suc n) s p ls true = behind s p ls >>= λ x. others_by n s p x.1 (heads (is_sign s) x.1) >>= cons_rest x.0

-- those that were found, and others each behind the symbol
abbrev pub more_parts_in : {A : Type 0} → ℕ → List A → Sign → (List Lexeme → Read A) → List Lexeme → Read (List A)
more_parts_in n found s p ls = with_front found (others_by n s p ls (heads (is_sign s) ls))

-- what was read are those that were found, and others each behind the symbol
abbrev pub GivesMore : {A : Type 0} → List A → Sign → (List Lexeme → Read A) → List Lexeme → Result (List A) (Fail Want) → List Lexeme → Type 0
GivesMore found s p before r after = (n : ℕ) → length before ≤ n → Gives (more_parts_in n found s p) before r after

-- the first and the others
abbrev pub whole_list : {A : Type 0} → A × List A → List A
whole_list x = x.0 ∷ x.1

-- one or more with the symbol between each two
abbrev pub parts_list : {A : Type 0} → Sign → (List Lexeme → Read A) → List Lexeme → Read (List A)
parts_list s p ls = mapped whole_list (listing (is_sign s) (sign_token s) p) ls
