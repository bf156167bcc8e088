use Rattle.cyp_text.specs.TermReaders.{part_at}
use Rattle.cyp_text.proofs.Consumed.{shorter}
use Rattle.cyp_text.proofs.TermParts.{part_consumes}
use Rattle.cyp_text.proofs.terms.PartTreePart.read.Goals as goal

pub returns-clause-shorter : goal.returns-clause-shorter
returns-clause-shorter c = shorter part_at part_consumes c.args.from.now c.part.result c.part.new.self c.part.ensures
