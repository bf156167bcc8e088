use Rattle.std.proofs.Common.{List, drop, map, ℕ, ◌≡◌}
use Rattle.cyp_lex.specs.Lexemes.{lexeme_of}
use Rattle.cyp_text.specs.GrammarFaults.{has_void}
use Rattle.cyp_text.proofs.whole_text.has_begun.Given as goal

abbrev pub invariant-loop-token : goal.invariant-loop-token
invariant-loop-token l = (text : List ℕ) → has_void (map (lexeme_of text) l.tokens) ≡ has_void (map (lexeme_of text) (drop l.token-index l.tokens))
