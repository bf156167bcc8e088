use Rattle.cyp_goal.proofs.VarTables.{sets_are}
use Rattle.cyp_goal.proofs.var_table.VarTable.count_sets.Goals as goal

pub returns : goal.returns
returns c =
    let s = c.self.inside in
    sets_are s.order s.len s.ints.places s.ints.filled s.cards.places s.cards.filled s.sets.places s.sets.filled c.self.invariant c.args.self.now c.self.view_is
