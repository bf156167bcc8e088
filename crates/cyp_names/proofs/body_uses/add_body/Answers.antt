use Rattle.std.proofs.lemmas.Result.{on_ok_weaker}
use Rattle.cyp_names.proofs.EachKind.{body_added}
use Rattle.cyp_names.proofs.body_uses.add_body.Goals as goal

pub returns : goal.returns
returns c =
    on_ok_weaker c.add_heap.result
    (λ is. body_added c.args.order c.args.preds.now c.args.body.now c.as_slice.result.now c.args.uses.now.items c.add_pure.new.uses.items
    c.add_heap.new.uses.items c.as_slice.ensures c.in_ok-add_pure.ensures is)
    c.add_heap.ensures
