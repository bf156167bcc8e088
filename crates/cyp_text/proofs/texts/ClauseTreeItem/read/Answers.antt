use Rattle.cyp_text.specs.TextReaders.{clause_at}
use Rattle.cyp_text.proofs.Consumed.{shorter}
use Rattle.cyp_text.proofs.TextParts.{clause_consumes}
use Rattle.cyp_text.proofs.texts.ClauseTreeItem.read.Goals as goal

pub returns-clause-shorter : goal.returns-clause-shorter
returns-clause-shorter c = shorter clause_at clause_consumes c.args.from.now c.clause.result c.clause.new.self c.clause.ensures
