-- Beginnings of texts of a grammar, and the first lexeme that none of them allows.
use Rattle.std.specs.Prelude.{List, [], ◌++◌, ◌∷◌}
use Rattle.cyp_lex.specs.Lexemes.{Lexeme}
use Rattle.cyp_lex.specs.Spelling.{Mark, Match}

-- some tree's spelling begins so
abbrev pub Begins : {A : Type 0} → (A → List Mark) → List Lexeme → Type 0
Begins {A} spell ls = (tree : A) × (rest : List Lexeme) × Match (spell tree) (ls ++ rest)

-- up to here some tree's spelling begins so, and with this lexeme none does
abbrev pub IsRefusedAt : {A : Type 0} → (A → List Mark) → List Lexeme → Lexeme → Type 0
IsRefusedAt spell before l = Begins spell before × (Begins spell (before ++ l ∷ []) → ⊥)

-- some tree's spelling begins so, and none ends here
abbrev pub IsUnfinished : {A : Type 0} → (A → List Mark) → List Lexeme → Type 0
IsUnfinished {A} spell ls = Begins spell ls × ((tree : A) → Match (spell tree) ls → ⊥)

-- no tree's spelling begins with these lexemes and the next one, or none ends here where nothing is left
abbrev pub Refused : {A : Type 0} → (A → List Mark) → List Lexeme → List Lexeme → Type 0
Refused {A} spell before [] = (tree : A) → Match (spell tree) before → ⊥
Refused spell before (l ∷ ls) = Begins spell (before ++ l ∷ []) → ⊥
