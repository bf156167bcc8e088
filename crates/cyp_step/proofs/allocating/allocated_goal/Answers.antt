use Rattle.std.proofs.Common.{ap}
use Rattle.cyp_heap.specs.declared.chunk.Heap.{Heap}
use Rattle.cyp_step.proofs.BlocksMade.{allocated_made}
use Rattle.cyp_step.proofs.allocating.allocated_goal.Goals as goal

pub returns : goal.returns
returns c =
    allocated_made c.args.goal.now c.in_ok-allocated.allocated c.args.var c.args.block c.at.result c.new.result c.size.result c.in_ok-copy.field-0.chunks c.in_ok-pre.pre.chunks c.push.new.self
    c.push-2.new.self c.at.ensures c.new.ensures c.size.ensures (ap (λ (h : Heap). h.chunks) c.in_ok-copy.ensures) c.in_ok-pre.ensures c.in_ok-allocated.ensures c.in_ok-push.ensures.ok c.in_ok-push-2.ensures.ok
