use Rattle.std.proofs.Common.{length}
use Rattle.cyp_text.specs.ListReaders.{many}
use Rattle.cyp_text.proofs.Many.{Continues}
use Rattle.cyp_text.proofs.parser.Parser.items.Given as goal

abbrev pub invariant-items : goal.invariant-items
invariant-items g l = Continues g.T.Item.starts g.T.Item.reader l.found.items l.self (many g.T.Item.starts g.T.Item.reader l.fn.self)

abbrev pub decreases-items : goal.decreases-items
decreases-items g l = length l.self
