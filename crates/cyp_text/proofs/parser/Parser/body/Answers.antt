use Rattle.std.proofs.Common.{Err, refl, rules, sym, ◌∙◌, ◌≡◌}
use Rattle.cyp_text.specs.BodyReaders.{body_at, items_body}
use Rattle.cyp_text.specs.ChunkReaders.{heap_at}
use Rattle.cyp_text.proofs.BodiesRead.{heap_body_is, items_body_is}
use Rattle.cyp_text.proofs.PartsRead.{gives_same, stops_with}
use Rattle.cyp_text.proofs.parser.Parser.body.Goals as goal

pub returns-then-is_at_item : goal.returns-then-is_at_item
returns-then-is_at_item c =
    gives_same body_at items_body c.args.self.now c.args.self.now (items_body_is c.args.self.now (sym c.is_at_item.ensures ∙ c.if-is_at_item.true)) c.items_body.result c.items_body.new.self c.items_body.ensures

pub returns-in_err-chunks : goal.returns-in_err-chunks
returns-in_err-chunks c =
    let is : c.from_residual.result ≡ Err c.in_err-chunks.field-0.0 = search rules in
    stops_with body_at heap_at c.args.self.now c.args.self.now c.heap.new.self c.in_err-chunks.field-0.0 c.from_residual.result is c.in_err-chunks.ensures
    (λ s e. heap_body_is c.args.self.now (sym c.is_at_item.ensures ∙ c.if-is_at_item.false) ∙ rw e refl)

pub returns : goal.returns
returns c = heap_body_is c.args.self.now (sym c.is_at_item.ensures ∙ c.if-is_at_item.false) ∙ rw c.in_ok-chunks.ensures refl
