use Rattle.cyp_names.proofs.SeenUses.{judged_more}
use Rattle.cyp_names.proofs.sorts.sort_fault.Goals as goal

pub loop-used-preserved : goal.loop-used-preserved
loop-used-preserved c =
    judged_more c.loop-used.seen.items c.judge_use.new.seen.items c.args.uses.now c.loop-used.used-index c.used-item.result c.loop-used.found c.in_ok-fault.fault
    c.lesser-found.result _ c.loop-used-test.true c.used-item.is c.in_ok-fault.ensures.seen c.in_ok-fault.ensures.fault c.lesser-found.ensures c.loop-used.invariant
