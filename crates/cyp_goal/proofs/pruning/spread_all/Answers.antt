use Rattle.std.proofs.Common.{◌∙◌, sym}
use Rattle.cyp_goal.proofs.Spreading.{spread_done, spread_on}
use Rattle.cyp_goal.proofs.pruning.spread_all.Goals as goal

pub returns-then-len-before : goal.returns-then-len-before
returns-then-len-before c =
    spread_done c.args.lits.now c.loop-turn.live c.spread.new.live _ _ c.loop-turn._turn c.loop-turn.invariant c.loop-turn-test.true c.spread.ensures (sym c.len.ensures ∙ c.if-len-before.true ∙ c.len-before.ensures)

pub loop-turn-preserved : goal.loop-turn-preserved
loop-turn-preserved c = spread_on c.args.lits.now c.loop-turn.live c.spread.new.live _ _ c.loop-turn._turn c.loop-turn.invariant c.loop-turn-test.true c.spread.ensures
