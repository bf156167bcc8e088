use Rattle.cyp_prog.proofs.Programs.{one_tree}
use Rattle.cyp_prog.proofs.laws.lexemes_spell_one_tree.Goals as goal

pub returns : goal.returns
returns c = one_tree
