use Rattle.std.proofs.lemmas.Result.{err_from_is_err_and}
use Rattle.cyp_heap.proofs.Applied.{refused_at}
use Rattle.cyp_pred.proofs.Entries.{one_more}
use Rattle.cyp_pred.proofs.Ready.{at_item}
use Rattle.cyp_pred.specs.Parts.{is_ready}
use Rattle.cyp_pred.specs.Unfold.{unfold_clause, wide_unfolded}
use Rattle.cyp_pred.proofs.unfolding.unfold_clauses.Goals as goal

pub unfold_clause-requires-clause-ready : goal.unfold_clause-requires-clause-ready
unfold_clause-requires-clause-ready c =
    at_item (is_ready c.args.inst.now c.args.next) c.args.clauses.now c.loop-clause.clause-index c.clause-item.result c.loop-clause-test.true c.clause-item.is c.requires.ready

pub loop-clause-preserved : goal.loop-clause-preserved
loop-clause-preserved c =
    let p = one_more (λ x. unfold_clause c.args.inst.now c.args.next x) (λ x. wide_unfolded x) c.args.clauses.now c.loop-clause.clause-index c.clause-item.result c.in_ok-unfold_clause.field-0 c.loop-clause.entries.items c.push.new.self.items c.loop-clause-test.true c.clause-item.is c.in_ok-unfold_clause.ensures c.in_ok-push.ensures.items c.loop-clause.invariant.made c.loop-clause.invariant.narrow in
    record { made = p.0; narrow = p.1 }

pub returns-in_err-unfold_clause : goal.returns-in_err-unfold_clause
returns-in_err-unfold_clause c =
    let p = err_from_is_err_and c.from_residual-in_err-unfold_clause.result c.from_residual-in_err-unfold_clause.ensures.1 in
    rw (p.1, p.2) (refused_at (λ x. unfold_clause c.args.inst.now c.args.next x) (λ x. wide_unfolded x) c.args.clauses.now c.loop-clause.clause-index c.clause-item.result c.in_err-unfold_clause.field-0.0 c.loop-clause-test.true c.clause-item.is c.in_err-unfold_clause.ensures)
