use Rattle.std.proofs.Common.{sym}
use Rattle.cyp_text.proofs.LitParts.{nots_of_negated}
use Rattle.cyp_text.proofs.lit_tree.LitTree.nots.Goals as goal

pub returns : goal.returns
returns c = rw (← c.self.view_is) (sym (nots_of_negated c.self.inside.nots c.self.inside.base))
