use Rattle.std.proofs.Common.{length}
use Rattle.cyp_lex.specs.Readers.{is_word}
use Rattle.cyp_lex.specs.declared.token.Word.TheVariants.{Not}
use Rattle.cyp_text.specs.ListReaders.{many}
use Rattle.cyp_text.specs.LitReaders.{opening}
use Rattle.cyp_text.proofs.Many.{Continues}
use Rattle.cyp_text.proofs.parser.Parser.openings.Given as goal

abbrev pub invariant-openings : goal.invariant-openings
invariant-openings l = Continues (is_word Not) opening l.places.items l.self (many (is_word Not) opening l.fn.self)

abbrev pub decreases-openings : goal.decreases-openings
decreases-openings l = length l.self
