use Rattle.std.proofs.Common.{◌≡◌, ◌≤◌, drop}
use Rattle.cyp_lex.specs.Lexing.{decimal_value}
use Rattle.cyp_lex.proofs.lexer.number.Given as goal

abbrev pub invariant-loop-d : goal.invariant-loop-d
invariant-loop-d l = record { small : l.value ≤ l.greatest; value : decimal_value 0 l.digits ≡ decimal_value l.value (drop l.d-index l.digits) }
