use Rattle.std.proofs.Common.{◌≡◌, drop}
use Rattle.cyp_lex.specs.Lexing.{name_kind}
use Rattle.cyp_lex.proofs.lexer.kind_of_name.Given as goal

abbrev pub invariant-loop-word : goal.invariant-loop-word
invariant-loop-word l = name_kind l.among l.text ≡ name_kind (drop l.word-index l.among) l.text
