use Rattle.std.proofs.Common.{refl, rules, sym, ◌∙◌, ◌≡◌, Err}
use Rattle.cyp_text.specs.ListReaders.{many}
use Rattle.cyp_text.proofs.Many.{loop_ends, loop_goes_on, loop_stops}
use Rattle.cyp_text.proofs.PartsRead.{stops_with}
use Rattle.cyp_text.proofs.parser.Parser.items.Goals as goal

pub items-preserved : goal.items-preserved
items-preserved g c =
    rw c.in_ok-push.ensures.items
    (loop_goes_on g.T.Item.starts g.T.Item.reader c.items.found.items c.items.self c.in_ok-item.item c.read.new.from (many g.T.Item.starts g.T.Item.reader c.args.self.now)
    (sym c.is_next.ensures ∙ c.items-test.true) c.in_ok-item.ensures.value c.in_ok-item.ensures.shorter c.items.invariant)

pub returns-in_err-item : goal.returns-in_err-item
returns-in_err-item g c =
    let is : c.from_residual-in_err-item.result ≡ Err c.in_err-item.field-0.0 = search rules in
    stops_with (many g.T.Item.starts g.T.Item.reader) g.T.Item.reader c.args.self.now c.items.self c.read.new.from c.in_err-item.field-0.0 c.from_residual-in_err-item.result is c.in_err-item.ensures.value
    (λ s e. loop_stops g.T.Item.starts g.T.Item.reader c.items.found.items c.items.self s (many g.T.Item.starts g.T.Item.reader c.args.self.now)
    (sym c.is_next.ensures ∙ c.items-test.true) c.items.invariant e)

pub returns : goal.returns
returns g c =
    loop_ends g.T.Item.starts g.T.Item.reader c.items.found.items c.items.self (many g.T.Item.starts g.T.Item.reader c.args.self.now)
    (sym c.is_next.ensures ∙ c.items-test.false) c.items.invariant ∙ rw c.fitted.ensures refl
