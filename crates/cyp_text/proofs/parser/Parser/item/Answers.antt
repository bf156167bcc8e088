use Rattle.std.proofs.Common.{Err, refl, rules, sym, ◌∙◌, ◌≡◌}
use Rattle.cyp_text.specs.BodyReaders.{item_at}
use Rattle.cyp_text.specs.LitReaders.{lit_at}
use Rattle.cyp_text.proofs.BodiesRead.{lit_item_is}
use Rattle.cyp_text.proofs.PartsRead.{stops_with}
use Rattle.cyp_text.proofs.parser.Parser.item.Goals as goal

pub returns-in_err-literal : goal.returns-in_err-literal
returns-in_err-literal c =
    let is : c.from_residual-in_err-literal.result ≡ Err c.in_err-literal.field-0.0 = search rules in
    stops_with item_at lit_at c.args.self.now c.args.self.now c.lit.new.self c.in_err-literal.field-0.0 c.from_residual-in_err-literal.result is c.in_err-literal.ensures
    (λ s e. lit_item_is c.args.self.now (sym c.is_at_word.ensures ∙ c.if-is_at_word.false) ∙ rw e refl)

pub returns : goal.returns
returns c = lit_item_is c.args.self.now (sym c.is_at_word.ensures ∙ c.if-is_at_word.false) ∙ rw c.in_ok-literal.ensures refl
