-- What the code of the reader does with the lexemes that are left.
use Rattle.std.specs.Prelude.{[], Err, List, None, Ok, Option, Result, Some, ℕ, ◌∷◌, ◌≡◌, ◌≤◌}
use Rattle.cyp_lex.specs.Lexemes.{Lexeme, Said, said_by}
use Rattle.cyp_lex.specs.Readers.{Read, stop}
use Rattle.cyp_lex.specs.declared.want.Want.{Want}
use Rattle.cyp_lex.specs.declared.token.Token.{Token}
use Rattle.cyp_lex.specs.declared.token.TokenKind.{TokenKind}
use Rattle.cyp_term.specs.declared.fail.Fail.{Fail}
use Rattle.cyp_term.specs.declared.fail.Fail.TheVariants.{Named, NoMemory}

-- what the reader on lists gives: the value and the lexemes behind it, or what is wanted before those that are left; nothing is said where memory ran out
abbrev pub Gives : {A : Type 0} → (List Lexeme → Read A) → List Lexeme → Result A (Fail Want) → List Lexeme → Type 0
Gives p before (Ok x) after = p before ≡ Ok (x, after)
Gives p before (Err (Named w)) after = p before ≡ stop w after
Gives p before (Err NoMemory) after = Unit {0}

-- the first lexeme is of this kind; nothing is left where there is none
abbrev pub IsOfKind : Option TokenKind → List Lexeme → Type 0
IsOfKind None ls = ls ≡ []
IsOfKind (Some k) [] = ⊥
IsOfKind (Some k) (l ∷ ls) = (bytes : List ℕ) × (l.said ≡ said_by k bytes)

-- what is behind the first lexeme
abbrev pub tail : List Lexeme → List Lexeme
tail [] = []
tail (l ∷ ls) = ls

-- the first lexeme stood at this place, and the others are left
abbrev pub IsPassed : List Lexeme → ℕ → List Lexeme → Type 0
IsPassed before place after = (k : Said) × (before ≡ record { said = k; place = place } ∷ after)

-- the token's bytes lie in a text of so many bytes
abbrev pub LiesWithin : ℕ → Token → Type 0
LiesWithin size t = (t.start ≤ t.end) × (t.end ≤ size)
