use Rattle.std.proofs.Common.{◌≡◌, drop}
use Rattle.std.specs.List.{list_all}
use Rattle.cyp_heap.specs.PredsFormed.{is_clause_within}
use Rattle.cyp_names.specs.Specifications.{read_clause}
use Rattle.cyp_text.specs.declared.tree.ClauseTree.{ClauseTree}
use Rattle.cyp_spec.proofs.pred_limits.are_clauses_within.Given as goal

abbrev pub invariant-loop-clause : goal.invariant-loop-clause
invariant-loop-clause l =
    list_all (λ (c : ClauseTree). is_clause_within (read_clause l.preds l.params c)) (drop l.clause-index l.clauses)
    ≡ list_all (λ (c : ClauseTree). is_clause_within (read_clause l.preds l.params c)) l.clauses
