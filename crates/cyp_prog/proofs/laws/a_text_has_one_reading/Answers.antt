use Rattle.cyp_prog.proofs.Programs.{one_reading, some_reading}
use Rattle.cyp_prog.proofs.laws.a_text_has_one_reading.Goals as goal

pub returns : goal.returns
returns c = record { some = some_reading; alone = one_reading }
