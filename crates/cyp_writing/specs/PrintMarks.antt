-- What a printer has written when it has written these tokens.
use Rattle.std.specs.Prelude.{[], Bool, List, codes, cond, false, not, ℕ, ◌++◌, ◌||◌, ◌∷◌}
use Rattle.cyp_lex.specs.Lexemes.{Name, Said, Symbol}
use Rattle.cyp_lex.specs.Spelling.{Mark}
use Rattle.cyp_lex.specs.declared.token.Sign.TheVariants.{LeftBracket, LeftParen}
use Rattle.cyp_writing.specs.declared.printer.Edge.{Edge}
use Rattle.cyp_writing.specs.declared.printer.Edge.TheVariants.{AfterName, AfterOpening, AfterOther, LineStart}
use Rattle.cyp_writing.specs.Printing.{is_closing, is_paren, mark_said, said_text}

-- the bytes that are written, and what stands before the next token
pub record Printed : Type 0 where
  pub bytes : List ℕ
  pub edge : Edge

-- what the token is to the next one
abbrev pub edge_of : Said → Edge
edge_of (Name text) = AfterName
edge_of (Symbol LeftParen) = AfterOpening
edge_of (Symbol LeftBracket) = AfterOpening
edge_of _ = AfterOther

-- a blank stands between what stood before and the token
abbrev pub takes_blank : Edge → Said → Bool
takes_blank LineStart k = false
takes_blank AfterOpening k = false
takes_blank AfterName k = not (is_closing k || is_paren k)
takes_blank AfterOther k = not (is_closing k)

-- a blank, if there is one
abbrev pub blank_if : Bool → List ℕ
blank_if b = cond b (codes " ") []

-- behind one more token
unfoldable pub with_said : Printed → Said → Printed
with_said p k = record { bytes = p.bytes ++ blank_if (takes_blank p.edge k) ++ said_text k; edge = edge_of k }

-- behind all that is spelled so
abbrev pub with_marks : Printed → List Mark → Printed
with_marks p [] = p
with_marks p (m ∷ ms) = with_marks (with_said p (mark_said m)) ms

-- behind these bytes, where a line begins
abbrev pub with_lines : List ℕ → List ℕ → Printed
with_lines before lines = record { bytes = before ++ lines; edge = LineStart }
