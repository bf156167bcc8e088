-- Which lexemes spell a tree, whatever follows them.
use Rattle.std.specs.Prelude.{List, [], ◌++◌, ◌∷◌, ◌≡◌, ℕ}
use Rattle.cyp_lex.specs.declared.token.Sign.{Sign}
use Rattle.cyp_lex.specs.declared.token.Word.{Word}
use Rattle.cyp_lex.specs.declared.ident.Ident.{Ident}
use Rattle.cyp_lex.specs.Lexemes.{Lexeme, Name, Reserved, Said, Symbol}

-- what a lexeme says, and its place where the tree tells it
pub data Mark : Type 0 where
  Any : Said → Mark
  At : Said → ℕ → Mark

-- the lexeme says so, and stands there where a place is told
abbrev pub Fits : Mark → Lexeme → Type 0
Fits (Any k) l = l.said ≡ k
Fits (At k p) l = (l.said ≡ k) × (l.place ≡ p)

-- the lexemes are those of the marks, and then what `rest` allows
abbrev pub Then : List Mark → (List Lexeme → Type 0) → List Lexeme → Type 0
Then [] rest ls = rest ls
Then (m ∷ ms) rest [] = ⊥
Then (m ∷ ms) rest (l ∷ ls) = Fits m l × Then ms rest ls

-- nothing is left
abbrev pub IsEnd : List Lexeme → Type 0
IsEnd ls = ls ≡ []

-- the lexemes are those of the marks, and no more
abbrev pub Match : List Mark → List Lexeme → Type 0
Match ms ls = Then ms IsEnd ls

-- a symbol, wherever it stands
abbrev pub sign : Sign → Mark
sign s = Any (Symbol s)

-- a reserved word, wherever it stands
abbrev pub word : Word → Mark
word w = Any (Reserved w)

-- a name at its place
abbrev pub ident : Ident → Mark
ident i = At (Name i.text) i.place

-- each behind the separator
abbrev pub more_spelling : {A : Type 0} → Said → (A → List Mark) → List A → List Mark
more_spelling separator spell [] = []
more_spelling separator spell (x ∷ xs) = Any separator ∷ (spell x ++ more_spelling separator spell xs)

-- one or more, with the separator between each two
abbrev pub list_spelling : {A : Type 0} → Said → (A → List Mark) → A → List A → List Mark
list_spelling separator spell x xs = spell x ++ more_spelling separator spell xs

-- none or more, with the separator between each two
abbrev pub separated : {A : Type 0} → Said → (A → List Mark) → List A → List Mark
separated separator spell [] = []
separated separator spell (x ∷ xs) = list_spelling separator spell x xs

-- one after another
abbrev pub all_spelling : {A : Type 0} → (A → List Mark) → List A → List Mark
all_spelling spell [] = []
all_spelling spell (x ∷ xs) = spell x ++ all_spelling spell xs
