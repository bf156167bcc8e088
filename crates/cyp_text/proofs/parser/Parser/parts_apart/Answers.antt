use Rattle.std.proofs.Common.{arith, length, refl, rules, sym, ◌∙◌, ◌≡◌, Err, [], ◌≤◌}
use Rattle.cyp_lex.specs.Readers.{is_sign, listing, sign_token}
use Rattle.cyp_text.specs.ListReaders.{more_parts_in}
use Rattle.cyp_text.proofs.PartsRead.{apart_is, stops_with}
use Rattle.cyp_text.proofs.parser.Parser.parts_apart.Goals as goal

pub returns-in_err-others : goal.returns-in_err-others
returns-in_err-others g c =
    let is : c.from_residual-in_err-others.result ≡ Err c.in_err-others.field-0.0 = search rules in
    let above : length c.read.new.from ≤ length c.args.self.now = omega (arith, c.in_ok-first.ensures.shorter) in
    let none : c.in_ok-room_for_one.field-0 ≡ [] = c.in_ok-room_for_one.ensures in
    stops_with (listing (is_sign c.args.separator) (sign_token c.args.separator) g.T.Part.reader) (more_parts_in (length c.args.self.now) c.in_ok-room_for_one.field-0 c.args.separator g.T.Part.reader)
    c.args.self.now c.read.new.from c.more_parts.new.self c.in_err-others.field-0.0 c.from_residual-in_err-others.result is (c.in_err-others.ensures (length c.args.self.now) above)
    (λ s e. apart_is c.args.separator g.T.Part.reader c.args.self.now c.in_ok-first.first c.read.new.from c.in_ok-first.ensures.value ∙ rw (sym none, e) refl)

pub returns : goal.returns
returns g c =
    let above : length c.read.new.from ≤ length c.args.self.now = omega (arith, c.in_ok-first.ensures.shorter) in
    let none : c.in_ok-room_for_one.field-0 ≡ [] = c.in_ok-room_for_one.ensures in
    apart_is c.args.separator g.T.Part.reader c.args.self.now c.in_ok-first.first c.read.new.from c.in_ok-first.ensures.value
    ∙ rw (sym none, c.in_ok-others.ensures (length c.args.self.now) above) refl
