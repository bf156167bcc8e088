-- What a token of a program says: as in a specification, but a program variable's name says its number.
use Rattle.std.specs.Prelude.{◌&&◌, ◌==◌, Bool, List, cond, drop, false, map, nat_le, not, slice_range, ℕ, ◌∷◌}
use Rattle.std.specs.List.{list_all}
use Rattle.cyp_lex.specs.Lexemes.{Lexeme, Name, Said, Variable, said_by}
use Rattle.cyp_lex.specs.Lexing.{decimal_value, is_digit}
use Rattle.cyp_lex.specs.declared.token.Token.{Token}
use Rattle.cyp_lex.specs.declared.token.TokenKind.{TokenKind}
use Rattle.cyp_lex.specs.declared.token.TokenKind.TheVariants as kinds

-- `v` and a number from 1 to 65535 without leading zeros
abbrev pub is_variable_name : List ℕ → Bool
is_variable_name (v ∷ d ∷ cs) =
    (v == 118) && list_all is_digit (d ∷ cs) && not (d == 48) && nat_le (decimal_value 0 (d ∷ cs)) 65535
is_variable_name _ = false

-- the number behind the `v` of a variable's name
abbrev pub variable_number : List ℕ → ℕ
variable_number name = decimal_value 0 (drop 1 name)

-- a program variable where the name is one's, else the name
abbrev pub name_said : List ℕ → Said
name_said name = cond (is_variable_name name) (Variable (variable_number name)) (Name name)

-- what a token of this kind with these bytes says in a program
abbrev pub program_said : TokenKind → List ℕ → Said
program_said kinds.Name bytes = name_said bytes
program_said kind bytes = said_by kind bytes

-- what a token of this program's text says, and where it stands
abbrev pub program_lexeme : List ℕ → Token → Lexeme
program_lexeme text t = record { said = program_said t.kind (slice_range text t.start t.end); place = t.start }

-- what the tokens of this program's text say
abbrev pub program_lexemes : List ℕ → List Token → List Lexeme
program_lexemes text ts = map (program_lexeme text) ts
