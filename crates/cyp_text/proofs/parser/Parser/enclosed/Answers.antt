use Rattle.std.proofs.Common.{Err, refl, rules, sym, ◌∙◌, ◌≡◌}
use Rattle.cyp_lex.specs.Readers.{enclosed, sign_token}
use Rattle.cyp_lex.specs.declared.token.Sign.TheVariants.{Comma}
use Rattle.cyp_text.specs.ListReaders.{parts_list}
use Rattle.cyp_text.proofs.PartsRead.{enclosed_is, stops_with}
use Rattle.cyp_text.proofs.parser.Parser.enclosed.Goals as goal

pub returns-in_err-parts : goal.returns-in_err-parts
returns-in_err-parts g c =
    let is : c.from_residual-in_err-parts.result ≡ Err c.in_err-parts.field-0.0 = search rules in
    let all = enclosed_is g.T.Part.want c.args.close g.T.Part.starts g.T.Part.reader g.met.T.Part.refuses c.args.self.now (sym c.is_at.ensures ∙ c.if-is_at.false) in
    stops_with (enclosed g.T.Part.want c.args.close g.T.Part.starts g.T.Part.reader) (parts_list Comma g.T.Part.reader) c.args.self.now c.args.self.now c.parts.new.self
    c.in_err-parts.field-0.0 c.from_residual-in_err-parts.result is c.in_err-parts.ensures (λ s e. all ∙ rw e refl)

pub returns-in_err-sign-2 : goal.returns-in_err-sign-2
returns-in_err-sign-2 g c =
    let is : c.from_residual-in_err-sign-2.result ≡ Err c.in_err-sign-2.field-0.0 = search rules in
    let all = enclosed_is g.T.Part.want c.args.close g.T.Part.starts g.T.Part.reader g.met.T.Part.refuses c.args.self.now (sym c.is_at.ensures ∙ c.if-is_at.false) in
    stops_with (enclosed g.T.Part.want c.args.close g.T.Part.starts g.T.Part.reader) (sign_token c.args.close) c.args.self.now c.parts.new.self c.sign-2.new.self
    c.in_err-sign-2.field-0.0 c.from_residual-in_err-sign-2.result is c.in_err-sign-2.ensures (λ s e. all ∙ rw (c.in_ok-parts.ensures, e) refl)

pub returns : goal.returns
returns g c =
    enclosed_is g.T.Part.want c.args.close g.T.Part.starts g.T.Part.reader g.met.T.Part.refuses c.args.self.now (sym c.is_at.ensures ∙ c.if-is_at.false)
    ∙ rw (c.in_ok-parts.ensures, c.in_ok-sign-2.ensures) refl
