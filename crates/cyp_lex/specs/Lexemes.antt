-- What a token says and where it stands. Grammars speak of these.
use Rattle.std.specs.Prelude.{List, slice_range, ℕ}
use Rattle.cyp_lex.specs.declared.token.Sign.{Sign}
use Rattle.cyp_lex.specs.declared.token.Token.{Token}
use Rattle.cyp_lex.specs.declared.token.TokenKind.{TokenKind}
use Rattle.cyp_lex.specs.declared.token.TokenKind.TheVariants as kinds
use Rattle.cyp_lex.specs.declared.token.Word.{Word}

-- a name with its bytes, a program's variable with its number, a number, a reserved word or a symbol
pub data Said : Type 0 where
  Name : List ℕ → Said
  Variable : ℕ → Said
  Number : ℕ → Said
  Reserved : Word → Said
  Symbol : Sign → Said

-- what a token says, and the place of its first byte
pub record Lexeme : Type 0 where
  pub said : Said
  pub place : ℕ

-- a token of this kind with these bytes; a name says its bytes
abbrev pub said_by : TokenKind → List ℕ → Said
said_by kinds.Name bytes = Name bytes
said_by (kinds.Number n) bytes = Number n
said_by (kinds.Word w) bytes = Reserved w
said_by (kinds.Sign s) bytes = Symbol s

-- what the token of this text says
abbrev pub lexeme_of : List ℕ → Token → Lexeme
lexeme_of text t = record { said = said_by t.kind (slice_range text t.start t.end); place = t.start }
