use Rattle.std.proofs.Common.{Err, refl, rules, sym, ◌∙◌, ◌≡◌}
use Rattle.cyp_lex.specs.Readers.{is_word}
use Rattle.cyp_lex.specs.declared.token.Word.TheVariants.{Not}
use Rattle.cyp_text.specs.ListReaders.{many}
use Rattle.cyp_text.specs.LitReaders.{opening}
use Rattle.cyp_text.proofs.LitsRead.{opening_consumes}
use Rattle.cyp_text.proofs.Many.{loop_ends, loop_goes_on, loop_stops}
use Rattle.cyp_text.proofs.PartsRead.{stops_with}
use Rattle.cyp_text.proofs.parser.Parser.openings.Goals as goal

pub openings-preserved : goal.openings-preserved
openings-preserved c =
    rw c.in_ok-push.ensures.items
    (loop_goes_on (is_word Not) opening c.openings.places.items c.openings.self c.in_ok-place.place c.opening.new.self (many (is_word Not) opening c.args.self.now)
    (sym c.is_at_word.ensures ∙ c.openings-test.true) c.in_ok-place.ensures (opening_consumes c.openings.self c.in_ok-place.place c.opening.new.self c.in_ok-place.ensures) c.openings.invariant)

pub returns-in_err-place : goal.returns-in_err-place
returns-in_err-place c =
    let is : c.from_residual.result ≡ Err c.in_err-place.field-0.0 = search rules in
    stops_with (many (is_word Not) opening) opening c.args.self.now c.openings.self c.opening.new.self c.in_err-place.field-0.0 c.from_residual.result is c.in_err-place.ensures
    (λ s e. loop_stops (is_word Not) opening c.openings.places.items c.openings.self s (many (is_word Not) opening c.args.self.now)
    (sym c.is_at_word.ensures ∙ c.openings-test.true) c.openings.invariant e)

pub returns : goal.returns
returns c =
    loop_ends (is_word Not) opening c.openings.places.items c.openings.self (many (is_word Not) opening c.args.self.now)
    (sym c.is_at_word.ensures ∙ c.openings-test.false) c.openings.invariant ∙ rw c.from_vec.ensures refl
