use Rattle.cyp_diff.proofs.Vars.{told_none}
use Rattle.cyp_diff.proofs.places.VarTable.new.Goals as goal

pub invariant_of-result : goal.invariant_of-result
invariant_of-result c = told_none c.new.result.items c.new.ensures.items
