use Rattle.cyp_text.specs.BodyReaders.{later_item_at}
use Rattle.cyp_text.proofs.Consumed.{shorter}
use Rattle.cyp_text.proofs.TextParts.{later_consumes}
use Rattle.cyp_text.proofs.bodies.Tuple2ConjunctionItemTreeItem.read.Goals as goal

pub returns-clause-shorter : goal.returns-clause-shorter
returns-clause-shorter c = shorter later_item_at later_consumes c.args.from.now c.later_item.result c.later_item.new.self c.later_item.ensures
