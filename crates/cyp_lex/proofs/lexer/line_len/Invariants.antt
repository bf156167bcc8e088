use Rattle.std.proofs.Common.{◌≡◌, ◌+◌, drop}
use Rattle.std.specs.List.{prefix_len}
use Rattle.cyp_lex.specs.Lexing.{is_no_line_end}
use Rattle.cyp_lex.proofs.lexer.line_len.Given as goal

abbrev pub invariant-loop-i : goal.invariant-loop-i
invariant-loop-i l = prefix_len is_no_line_end l.text ≡ l.i + prefix_len is_no_line_end (drop l.i l.text)
