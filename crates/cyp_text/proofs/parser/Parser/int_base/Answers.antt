use Rattle.std.proofs.Common.{Err, refl, rules, sym, ◌∙◌, ◌≡◌}
use Rattle.cyp_text.specs.LitReaders.{int_base}
use Rattle.cyp_text.specs.TermReaders.{int_at}
use Rattle.cyp_text.proofs.BasesRead.{comparing_is, inside_is}
use Rattle.cyp_text.proofs.PartsRead.{stops_with}
use Rattle.cyp_text.proofs.parser.Parser.int_base.Goals as goal

pub returns-then-is_at_word : goal.returns-then-is_at_word
returns-then-is_at_word c =
    inside_is c.args.self.now c.int.new.self c.in_ok-left.left c.in_ok-left.ensures (sym c.is_at_word.ensures ∙ c.if-is_at_word.true)
    ∙ rw (c.in_ok-word.ensures, c.in_ok-set.ensures) refl

pub returns-in_err-right : goal.returns-in_err-right
returns-in_err-right c =
    let is : c.from_residual-in_err-right.result ≡ Err c.in_err-right.field-0.0 = search rules in
    stops_with int_base int_at c.args.self.now c.comparison.new.self c.int-2.new.self c.in_err-right.field-0.0 c.from_residual-in_err-right.result is c.in_err-right.ensures
    (λ s e. comparing_is c.args.self.now c.int.new.self c.in_ok-left.left c.in_ok-left.ensures (sym c.is_at_word.ensures ∙ c.if-is_at_word.false) ∙ rw (c.in_ok-comparison.ensures, e) refl)
