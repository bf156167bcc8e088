use Rattle.std.proofs.Common.{arith}
use Rattle.std.proofs.lemmas.Result.{err_from_is_err_and}
use Rattle.cyp_pred.proofs.Entries.{one_made, one_refused}
use Rattle.cyp_pred.specs.Unfold.{clauses_of}
use Rattle.std.specs.List.{slice_get}
use Rattle.cyp_pred.proofs.unfolding.unfold_one.Goals as goal

pub returns : goal.returns
returns c =
    one_made c.args.inst.now c.args.next c.clauses_of-clauses.result.now (clauses_of (slice_get c.args.preds.now.list c.args.inst.now.pred)) c.args.clause c.index-clauses-place.result c.in_ok-unfold_clause.field-0
    c.clauses_of-clauses.ensures.clauses (omega (arith, c.if-place-clauses.false)) c.index-clauses-place.is c.in_ok-unfold_clause.ensures

pub returns-in_err-unfold_clause : goal.returns-in_err-unfold_clause
returns-in_err-unfold_clause c =
    let p = err_from_is_err_and c.from_residual.result c.from_residual.ensures.1 in
    rw (p.1, p.2) (one_refused c.args.inst.now c.args.next c.clauses_of-clauses.result.now (clauses_of (slice_get c.args.preds.now.list c.args.inst.now.pred)) c.args.clause c.index-clauses-place.result c.in_err-unfold_clause.field-0.0
    c.clauses_of-clauses.ensures.clauses (omega (arith, c.if-place-clauses.false)) c.index-clauses-place.is c.in_err-unfold_clause.ensures)
