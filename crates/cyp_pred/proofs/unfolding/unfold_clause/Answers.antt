use Rattle.std.proofs.Common.{◌≡◌, ◌∙◌, ap, refl}
use Rattle.std.proofs.lemmas.Result.{err_from_is_err_and}
use Rattle.cyp_heap.specs.declared.pred.Clause.{Clause}
use Rattle.cyp_pred.proofs.Entries.{entry_gives, entry_refused}
use Rattle.cyp_pred.proofs.Ready.{Ready, applied_is, applied_ready}
use Rattle.cyp_pred.specs.Parts.{apply_clause, wide_clause}
use Rattle.cyp_pred.specs.Unfold.{clause_subst}
use Rattle.cyp_pred.proofs.unfolding.unfold_clause.Goals as goal

made_is : (c : goal.In_ok-applied) → c.in_ok-applied.applied ≡ apply_clause (clause_subst c.args.inst.now.args c.args.clause.now c.args.next) c.args.clause.now
made_is c = applied_is c.args.inst.now c.args.next c.args.clause.now c.in_ok-applied.applied c.in_ok-by.by c.as_slice.result.now c.as_slice.ensures c.in_ok-by.ensures c.in_ok-applied.ensures.1

ready : (c : goal.In_ok-applied) → Ready c.args.inst.now c.args.next c.in_ok-applied.applied
ready c = applied_ready c.args.inst.now c.args.next c.args.clause.now c.in_ok-applied.applied (made_is c) c.requires.ready

pub entry-requires-clause-chunks : goal.entry-requires-clause-chunks
entry-requires-clause-chunks c = (ready c).chunks

pub entry-requires-clause-ints : goal.entry-requires-clause-ints
entry-requires-clause-ints c = (ready c).ints

pub entry-requires-clause-cards : goal.entry-requires-clause-cards
entry-requires-clause-cards c = (ready c).cards

pub entry-requires-clause-sets : goal.entry-requires-clause-sets
entry-requires-clause-sets c = (ready c).sets

pub returns : goal.returns
returns c =
    let made : c.in_ok-applied.applied ≡ apply_clause (clause_subst c.args.inst.now.args c.args.clause.now c.args.next) c.args.clause.now =
    applied_is c.args.inst.now c.args.next c.args.clause.now c.in_ok-applied.applied c.in_ok-by.by c.as_slice.result.now c.as_slice.ensures c.in_ok-by.ensures c.in_ok-applied.ensures.1 in
    entry_gives c.args.inst.now c.args.next c.args.clause.now c.in_ok-applied.applied c.in_ok-entry.field-0 made
    (ap wide_clause c.in_ok-applied.ensures.1 ∙ c.in_ok-applied.ensures.0) c.in_ok-entry.ensures

pub returns-in_err-applied : goal.returns-in_err-applied
returns-in_err-applied c =
    let p = err_from_is_err_and c.from_residual-in_err-applied.result c.from_residual-in_err-applied.ensures.1 in
    let wide : Clause = apply_clause c.in_ok-by.by c.args.clause.now in
    let is : wide ≡ apply_clause (clause_subst c.args.inst.now.args c.args.clause.now c.args.next) c.args.clause.now =
    applied_is c.args.inst.now c.args.next c.args.clause.now wide c.in_ok-by.by c.as_slice.result.now c.as_slice.ensures c.in_ok-by.ensures refl in
    rw (p.1, p.2) (entry_refused c.args.inst.now c.args.next c.args.clause.now wide c.in_err-applied.field-0.0 is c.in_err-applied.ensures)
