-- A law of the grammar of specifications.
use Rattle.std.specs.Prelude.{List, ◌≡◌}
use Rattle.cyp_lex.specs.Lexemes.{Lexeme}
use Rattle.cyp_lex.specs.Spelling.{Match}
use Rattle.cyp_text.specs.Grammar.{text_spelling}
use Rattle.cyp_text.specs.declared.tree.TextTree.{TextTree}

-- lexemes spell at most one tree
abbrev pub OneTree : Type 0
OneTree = (ls : List Lexeme) (t u : TextTree) → Match (text_spelling t) ls → Match (text_spelling u) ls → t ≡ u
