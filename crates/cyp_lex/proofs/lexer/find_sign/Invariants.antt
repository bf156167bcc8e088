use Rattle.std.proofs.Common.{◌≡◌, drop}
use Rattle.cyp_lex.specs.Lexing.{sign_at}
use Rattle.cyp_lex.proofs.lexer.find_sign.Given as goal

abbrev pub invariant-loop-sign : goal.invariant-loop-sign
invariant-loop-sign l = sign_at l.among l.text ≡ sign_at (drop l.sign-index l.among) l.text
