use Rattle.std.proofs.Common.{◌∙◌, sym, ap, arith}
use Rattle.std.proofs.lemmas.List.{get_or_default}
use Rattle.cyp_tree.specs.declared.mark.Mark.TheVariants.{Undecided}
use Rattle.cyp_tree.specs.Statuses.{status}
use Rattle.cyp_tree.proofs.WholeTrees.{status_is}
use Rattle.cyp_tree.proofs.tree.Tree.mark.Goals as goal

pub returns : goal.returns
returns g c =
    (c.index.ensures ∙ get_or_default c.self.inside.arena.marks.statuses.items 0 c.index.result.now Undecided (omega (arith, c.self.invariant.whole.arena.sized.statuses, c.self.invariant.whole.arena.linked.some))
    ∙ sym (status_is c.self.inside.arena.root c.self.inside.arena.places.items c.self.inside.arena.ways.items c.self.inside.arena.marks c.self.invariant.whole.arena) ∙ ap status c.self.view_is)
