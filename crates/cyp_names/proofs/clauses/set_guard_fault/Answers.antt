use Rattle.cyp_names.proofs.Bases.{plain_guard, set_guard}
use Rattle.cyp_names.proofs.clauses.set_guard_fault.Goals as goal

pub returns-then-is_set_base : goal.returns-then-is_set_base
returns-then-is_set_base c =
    set_guard c.args.guard.now c.base.result.now c.is_set_base.result c.fault.result c.literal_place.result c.is_set_base.ensures c.base.ensures c.if-is_set_base.true
    c.literal_place.ensures c.fault.ensures

pub returns-else-is_set_base : goal.returns-else-is_set_base
returns-else-is_set_base c = plain_guard c.args.guard.now c.base.result.now c.is_set_base.result c.is_set_base.ensures c.base.ensures c.if-is_set_base.false
