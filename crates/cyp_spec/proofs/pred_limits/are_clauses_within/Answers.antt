use Rattle.std.proofs.Common.{◌∙◌, sym}
use Rattle.cyp_heap.specs.PredsFormed.{is_clause_within}
use Rattle.cyp_spec.proofs.PredTests.{all_at, all_go_on, among_at, one_fails}
use Rattle.cyp_spec.specs.Small.{ClauseSmall}
use Rattle.cyp_names.proofs.NoFaults.{none_each}
use Rattle.cyp_names.specs.NameFaults.{clause_faults}
use Rattle.cyp_names.specs.Specifications.{read_clause}
use Rattle.cyp_text.specs.declared.tree.ClauseTree.{ClauseTree}
use Rattle.cyp_spec.proofs.pred_limits.are_clauses_within.Goals as goal

pub is_clause_within-requires : goal.is_clause_within-requires
is_clause_within-requires c =
    let cs = c.args.clauses.now in
    let i = c.loop-clause.clause-index in
    let d = c.clause-item.result in
    record {
      once = c.requires.once;
      right = none_each (clause_faults c.args.preds.now c.args.params.now) cs c.requires.right d (among_at cs i d c.loop-clause-test.true c.clause-item.is);
      small = all_at ClauseSmall cs i d c.requires.small c.loop-clause-test.true c.clause-item.is;
    }

pub returns-then-not-branch : goal.returns-then-not-branch
returns-then-not-branch c =
    one_fails (λ (d : ClauseTree). is_clause_within (read_clause c.args.preds.now c.args.params.now d)) c.args.clauses.now c.loop-clause.clause-index c.clause-item.result c.loop-clause-test.true
    c.clause-item.is (sym c.in_ok-is_clause_within.ensures ∙ c.if-not-branch.true)

pub loop-clause-preserved : goal.loop-clause-preserved
loop-clause-preserved c =
    all_go_on (λ (d : ClauseTree). is_clause_within (read_clause c.args.preds.now c.args.params.now d)) c.args.clauses.now c.loop-clause.clause-index c.clause-item.result c.loop-clause-test.true
    c.clause-item.is (sym c.in_ok-is_clause_within.ensures ∙ c.if-not-branch.false) c.loop-clause.invariant
