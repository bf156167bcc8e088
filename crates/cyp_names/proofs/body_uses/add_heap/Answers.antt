use Rattle.std.proofs.lemmas.Result.{on_ok_weaker}
use Rattle.cyp_names.proofs.EachKind.{kept_chunks}
use Rattle.cyp_names.proofs.body_uses.add_heap.Goals as goal

pub returns-in_ok-add_chunks-in-AsKept-2 : goal.returns-in_ok-add_chunks-in-AsKept-2
returns-in_ok-add_chunks-in-AsKept-2 c =
    on_ok_weaker c.add_chunks-in-AsKept-3.result
    (λ is. kept_chunks c.args.order c.args.preds.now c.args.chunks.now c.args.uses.now.items c.add_chunks-in-AsKept.new.uses.items
    c.add_chunks-in-AsKept-2.new.uses.items c.add_chunks-in-AsKept-3.new.uses.items c.in-AsKept.is c.in_ok-add_chunks-in-AsKept.ensures
    c.in_ok-add_chunks-in-AsKept-2.ensures is)
    c.add_chunks-in-AsKept-3.ensures
