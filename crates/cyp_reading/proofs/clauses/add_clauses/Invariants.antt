use Rattle.std.proofs.Common.{◌++◌, ◌≡◌, drop, map}
use Rattle.cyp_names.specs.Specifications.{read_clause}
use Rattle.cyp_reading.proofs.clauses.add_clauses.Given as goal

abbrev pub invariant-loop-tree : goal.invariant-loop-tree
invariant-loop-tree l = l.clauses.items ++ map (read_clause l.preds l.params) (drop l.tree-index l.trees) ≡ l.initial.clauses.items ++ map (read_clause l.preds l.params) l.trees
