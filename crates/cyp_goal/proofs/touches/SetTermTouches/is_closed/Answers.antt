use Rattle.std.proofs.Common.{◌∙◌, sym, true}
use Rattle.cyp_goal.proofs.Occurring.{set_closed}
use Rattle.cyp_goal.proofs.touches.SetTermTouches.is_closed.Goals as goal

pub returns-then-are_closed : goal.returns-then-are_closed
returns-then-are_closed c =
    set_closed c.args.self.now c.vars.result.now c.elems.result.now true c.are_closed-then-are_closed.result c.vars.ensures.vars c.elems.ensures (sym c.if-are_closed.true ∙ c.are_closed.ensures)
    c.are_closed-then-are_closed.ensures
