-- What a reader has to give: the tree that the lexemes spell, or the first lexeme that no text of the grammar allows.
use Rattle.std.specs.Prelude.{Err, List, Ok, Result, [], length, ◌++◌, ◌∷◌, ◌≡◌}
use Rattle.cyp_lex.specs.Lexemes.{Lexeme}
use Rattle.cyp_lex.specs.Spelling.{Mark, Match}
use Rattle.cyp_lex.specs.Beginnings.{Begins, Refused}
use Rattle.cyp_lex.specs.Readers.{IsNamed, Stop}
use Rattle.cyp_lex.specs.declared.want.Want.TheVariants.{AName, NoName}

-- the stop is at the first lexeme that is refused, and says whether a name is allowed in its place
pub record IsStop (A : Type 0) (spell : A → List Mark) (ts : List Lexeme) (s : Stop) : Type 0 where
  pub before : List Lexeme
  pub rest : List Lexeme
  pub parts : ts ≡ before ++ rest
  pub left : s.left ≡ length rest
  pub begins : Begins spell before
  pub refused : Refused spell before rest
  pub names : s.want ≡ AName → (i : Lexeme) → IsNamed i → Begins spell (before ++ i ∷ [])
  pub no_names : s.want ≡ NoName → (i : Lexeme) → IsNamed i → Begins spell (before ++ i ∷ []) → ⊥

-- all of the lexemes spell this tree and no other, or there is a fault
abbrev pub IsReading : {A : Type 0} → (A → List Mark) → List Lexeme → Result A Stop → Type 0
IsReading {A} spell ts (Ok x) = Match (spell x) ts × ((y : A) → Match (spell y) ts → y ≡ x)
IsReading {A} spell ts (Err s) = IsStop A spell ts s
