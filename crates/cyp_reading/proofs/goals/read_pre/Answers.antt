use Rattle.std.proofs.Common.{ap, arith, length, ◌∙◌}
use Rattle.cyp_heap.specs.Chunks.{in_order}
use Rattle.cyp_reading.proofs.CardsGiven.{chunks_counted, order_given}
use Rattle.cyp_names.specs.Specifications.{with_cards}
use Rattle.cyp_reading.proofs.goals.read_pre.Goals as goal

pub with_cards-requires : goal.with_cards-requires
with_cards-requires c = omega (arith, ap length c.in_ok-read.ensures.chunks, chunks_counted c.args.preds.now c.args.scope.now c.args.body.now, c.requires.few_chunks)

pub new-requires : goal.new-requires
new-requires c = ap in_order c.in_ok-given.ensures ∙ order_given 0 c.in_ok-read.read ∙ c.in_ok-read.ensures.order

pub returns : goal.returns
returns c = c.new.ensures ∙ (λ i. record { chunks = (c.in_ok-given.ensures ∙ ap (with_cards 0) c.in_ok-read.ensures.chunks) i })
