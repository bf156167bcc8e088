use Rattle.std.proofs.Common.{sym}
use Rattle.cyp_text.proofs.LitParts.{base_of_negated}
use Rattle.cyp_text.proofs.lit_tree.LitTree.base.Goals as goal

pub returns : goal.returns
returns c = rw (← c.self.view_is) (sym (base_of_negated c.self.inside.nots c.self.inside.base))
