use Rattle.cyp_text.specs.TextReaders.{pred_at}
use Rattle.cyp_text.proofs.Consumed.{shorter}
use Rattle.cyp_text.proofs.TextParts.{pred_consumes}
use Rattle.cyp_text.proofs.texts.PredTreeItem.read.Goals as goal

pub returns-clause-shorter : goal.returns-clause-shorter
returns-clause-shorter c = shorter pred_at pred_consumes c.args.from.now c.pred.result c.pred.new.self c.pred.ensures
