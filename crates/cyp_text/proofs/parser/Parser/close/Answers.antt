use Rattle.std.proofs.Common.{List, Ok, arith, refl, suc, ℕ, ◌+◌, ◌-◌, ◌∙◌, ◌≡◌}
use Rattle.cyp_lex.specs.Lexemes.{Lexeme}
use Rattle.cyp_lex.specs.Readers.{sign_token}
use Rattle.cyp_lex.specs.declared.token.Sign.TheVariants.{RightParen}
use Rattle.cyp_text.specs.LitReaders.{closes}
use Rattle.cyp_text.proofs.parser.Parser.close.Goals as goal

closes_one : (n m : ℕ) (ls rest : List Lexeme) (u : Unit {0}) → n ≡ suc m → sign_token RightParen ls ≡ Ok (u, rest) → closes n ls ≡ closes m rest
closes_one n m ls rest u e f = rw (e, f) refl

pub loop-i-preserved : goal.loop-i-preserved
loop-i-preserved c =
    c.loop-i.invariant ∙ closes_one (c.args.count - c.loop-i.i) (c.args.count - (c.loop-i.i + 1)) c.loop-i.self c.sign.new.self c.in_ok-sign.field-0 (omega (arith, c.loop-i-test.true)) c.in_ok-sign.ensures
