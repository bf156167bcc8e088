use Rattle.std.proofs.Common.{IsTrue, subst, sym}
use Rattle.cyp_heap.proofs.Order.{applied_in_order}
use Rattle.cyp_heap.specs.Chunks.{in_order}
use Rattle.cyp_goal.proofs.substitution.apply_heap.Goals as goal

pub new-requires : goal.new-requires
new-requires c =
    subst (λ cs. IsTrue (in_order cs)) (sym c.in_ok-chunks.ensures.1) (applied_in_order c.args.by.now c.into_chunks.result c.into_chunks.ensures.order)
