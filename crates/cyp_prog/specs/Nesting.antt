-- How deep conditionals are nested.
use Rattle.std.specs.Prelude.{◌++◌, ◌-◌, ◌≡◌, ◌≤◌, Bool, List, count_by, false, true, ℕ, ◌∷◌}
use Rattle.cyp_lex.specs.Lexemes.{Lexeme, Reserved, Said, Symbol}
use Rattle.cyp_lex.specs.declared.token.Sign.TheVariants.{LeftBrace, RightBrace}
use Rattle.cyp_lex.specs.declared.token.Word.TheVariants.{If}

-- `{`
abbrev pub is_opening : Said → Bool
is_opening (Symbol LeftBrace) = true
is_opening s = false

-- `}`
abbrev pub is_closing : Said → Bool
is_closing (Symbol RightBrace) = true
is_closing s = false

-- how many blocks are open behind these lexemes
abbrev pub open_blocks : List Lexeme → ℕ
open_blocks ls = count_by (λ l. is_opening l.said) ls - count_by (λ l. is_closing l.said) ls

-- how many conditionals are round what follows: all open blocks but the procedure's own
abbrev pub conditionals_round : List Lexeme → ℕ
conditionals_round before = open_blocks before - 1

-- this lexeme behind those is an `if` inside 128 conditionals
abbrev pub IsTooDeep : List Lexeme → Lexeme → Type 0
IsTooDeep before l = (l.said ≡ Reserved If) × (128 ≤ conditionals_round before)

-- none of the lexemes is an `if` inside 128 conditionals
abbrev pub IsShallow : List Lexeme → Type 0
IsShallow ls = (before after : List Lexeme) (l : Lexeme) → ls ≡ before ++ l ∷ after → IsTooDeep before l → ⊥
