use Rattle.cyp_spec.proofs.TextSteps.{procedure_at}
use Rattle.cyp_spec.proofs.limits.procedure_fault.Goals as goal

pub returns : goal.returns
returns c =
    procedure_at c.args.tree.now c.requires.order c.requires.preds c.sizes_fault-pre.result c.sizes_fault-post.result c.in_ok-root.root c.lesser-sizes.result c.lesser-least.result
    c.sizes_fault-pre.ensures c.sizes_fault-post.ensures c.in_ok-root.ensures c.lesser-sizes.ensures c.lesser-least.ensures
