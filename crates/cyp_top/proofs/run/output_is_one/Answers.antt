use Rattle.cyp_words.specs.Words.{one_worker_command_of}
use Rattle.cyp_top.proofs.Outputs.{one_output}
use Rattle.cyp_top.proofs.run.output_is_one.Goals as goal

-- src/run.rt
pub returns : goal.returns
returns c words bytes a b h k = one_output (one_worker_command_of words) bytes a b h k
