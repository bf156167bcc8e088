use Rattle.std.proofs.Common.{refl, rules, sym, ◌∙◌, ◌≡◌, Err}
use Rattle.cyp_text.specs.ListReaders.{behind, more_parts_in}
use Rattle.cyp_text.proofs.PartsRead.{parts_end, parts_go_on, parts_stop, stops_with}
use Rattle.cyp_text.proofs.parser.Parser.more_parts.Goals as goal

pub parts-preserved : goal.parts-preserved
parts-preserved g c = λ n above.
    rw c.in_ok-push.ensures.ok
    (parts_go_on c.args.separator g.T.Part.reader c.parts.found c.parts.self c.in_ok-part.part c.behind.new.self (more_parts_in n c.args.found c.args.separator g.T.Part.reader c.args.self.now)
    (sym c.is_at.ensures ∙ c.parts-test.true) c.in_ok-part.ensures.value c.in_ok-part.ensures.shorter (c.parts.invariant n above))

pub returns-in_err-part : goal.returns-in_err-part
returns-in_err-part g c = λ n above.
    let is : c.from_residual.result ≡ Err c.in_err-part.field-0.0 = search rules in
    stops_with (more_parts_in n c.args.found c.args.separator g.T.Part.reader) (behind c.args.separator g.T.Part.reader) c.args.self.now c.parts.self c.behind.new.self
    c.in_err-part.field-0.0 c.from_residual.result is c.in_err-part.ensures.value
    (λ s e. parts_stop c.args.separator g.T.Part.reader c.parts.found c.parts.self s (more_parts_in n c.args.found c.args.separator g.T.Part.reader c.args.self.now)
    (sym c.is_at.ensures ∙ c.parts-test.true) (c.parts.invariant n above) e)

pub returns : goal.returns
returns g c = λ n above.
    parts_end c.args.separator g.T.Part.reader c.parts.found c.parts.self (more_parts_in n c.args.found c.args.separator g.T.Part.reader c.args.self.now)
    (sym c.is_at.ensures ∙ c.parts-test.false) (c.parts.invariant n above)
    ∙ rw (c.fitted.ensures, c.into_vec.ensures) refl
