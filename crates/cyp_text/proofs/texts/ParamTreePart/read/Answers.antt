use Rattle.cyp_text.specs.TextReaders.{param_at}
use Rattle.cyp_text.proofs.Consumed.{shorter}
use Rattle.cyp_text.proofs.TextParts.{param_consumes}
use Rattle.cyp_text.proofs.texts.ParamTreePart.read.Goals as goal

pub returns-clause-shorter : goal.returns-clause-shorter
returns-clause-shorter c = shorter param_at param_consumes c.args.from.now c.param.result c.param.new.self c.param.ensures
