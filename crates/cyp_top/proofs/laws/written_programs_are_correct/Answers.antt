use Rattle.cyp_top.proofs.CorrectTexts.{written_is_correct}
use Rattle.cyp_top.proofs.laws.written_programs_are_correct.Goals as goal

pub returns : goal.returns
returns c = written_is_correct
