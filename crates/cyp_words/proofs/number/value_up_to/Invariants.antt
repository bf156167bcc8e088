use Rattle.std.proofs.Common.{◌≡◌, ◌≤◌, drop}
use Rattle.cyp_lex.specs.Lexing.{decimal_value}
use Rattle.cyp_words.proofs.number.value_up_to.Given as goal

abbrev pub invariant-loop-digit : goal.invariant-loop-digit
invariant-loop-digit l = record { small : l.value ≤ l.greatest; value : decimal_value 0 l.digits ≡ decimal_value l.value (drop l.digit-index l.digits) }
