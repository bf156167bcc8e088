use Rattle.cyp_prog.proofs.Programs.{read_is_not_refused}
use Rattle.cyp_prog.proofs.laws.a_read_text_is_not_refused.Goals as goal

pub returns : goal.returns
returns c = read_is_not_refused
