use Rattle.cyp_machine.proofs.Inputs.{one_input_tree}
use Rattle.cyp_machine.proofs.run_input.lexemes_spell_one_input.Goals as goal

pub returns : goal.returns
returns c = one_input_tree
