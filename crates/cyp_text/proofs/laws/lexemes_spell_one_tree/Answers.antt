use Rattle.cyp_text.proofs.Decided.{one_tree}
use Rattle.cyp_text.proofs.laws.lexemes_spell_one_tree.Goals as goal

pub returns : goal.returns
returns g = one_tree
