use Rattle.std.proofs.Common.{◌∙◌, ap, sym}
use Rattle.cyp_heap.specs.declared.pred.Pred.{Pred}
use Rattle.cyp_pred.proofs.Ready.{few_args_at, ready_at}
use Rattle.cyp_pred.proofs.unfolding.clauses_of.Goals as goal

pub returns-clause-args : goal.returns-clause-args
returns-clause-args c =
    few_args_at c.args.inst.now c.args.next c.args.preds.now c.list.result.now c.index-list-inst.result c.list.ensures.list c.list.ensures.formed c.requires.fits c.index-list-inst.is

pub returns-clause-ready : goal.returns-clause-ready
returns-clause-ready c =
    ready_at c.args.inst.now c.args.next c.args.preds.now c.list.result.now c.index-list-inst.result c.as_slice.result.now c.list.ensures.list c.list.ensures.formed c.requires.fits c.requires.numbers c.index-list-inst.is (c.as_slice.ensures ∙ sym (ap (λ (q : Pred). q.clauses) c.index-list-inst.is))
