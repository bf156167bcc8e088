use Rattle.std.proofs.Common.{Err, refl, rules, sym, ◌∙◌, ◌≡◌}
use Rattle.cyp_text.specs.TermReaders.{braced_terms, part_at}
use Rattle.cyp_text.proofs.BracesRead.{part_is}
use Rattle.cyp_text.proofs.PartsRead.{stops_with}
use Rattle.cyp_text.proofs.parser.Parser.part.Goals as goal

pub returns-in_err-place : goal.returns-in_err-place
returns-in_err-place c =
    let is : c.from_residual.result ≡ Err c.in_err-place.field-0.0 = search rules in
    stops_with part_at braced_terms c.args.self.now c.args.self.now c.braced_terms.new.self c.in_err-place.field-0.0 c.from_residual.result is c.in_err-place.ensures
    (λ s e. part_is c.args.self.now (sym c.is_at.ensures ∙ c.if-is_at.true) ∙ rw e refl)

pub returns-then-is_at : goal.returns-then-is_at
returns-then-is_at c = part_is c.args.self.now (sym c.is_at.ensures ∙ c.if-is_at.true) ∙ rw c.in_ok-place.ensures refl
