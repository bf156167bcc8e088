use Rattle.std.proofs.Common.{refl}
use Rattle.cyp_lex.specs.Readers.{sign_token}
use Rattle.cyp_lex.specs.declared.token.Sign.TheVariants.{RightBrace}
use Rattle.cyp_text.specs.TextReaders.{pred_at}
use Rattle.cyp_text.proofs.PartsRead.{residual_is, stops_with}
use Rattle.cyp_text.proofs.parser.Parser.pred.Goals as goal

pub returns-in_err-sign-2 : goal.returns-in_err-sign-2
returns-in_err-sign-2 c =
    let is = residual_is c.from_residual-in_err-sign-2.result c.in_err-sign-2.field-0.0 c.from_residual-in_err-sign-2.ensures in
    stops_with pred_at (sign_token RightBrace) c.args.self.now c.items.new.self c.sign-2.new.self c.in_err-sign-2.field-0.0 c.from_residual-in_err-sign-2.result is c.in_err-sign-2.ensures
    (λ s e. rw (c.in_ok-word.ensures, c.in_ok-name.ensures, c.in_ok-params.ensures, c.in_ok-sign.ensures, c.in_ok-first.ensures, c.in_ok-others.ensures, e) refl)
