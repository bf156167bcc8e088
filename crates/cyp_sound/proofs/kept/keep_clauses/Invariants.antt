use Rattle.cyp_heap.specs.declared.pred.Clause.{Clause}
use Rattle.cyp_sound.specs.Kept.{is_small}
use Rattle.std.proofs.Common.{take, true, ◌≡◌}
use Rattle.std.specs.List.{list_all}
use Rattle.cyp_sound.proofs.kept.keep_clauses.Given as goal

abbrev pub invariant-loop-clause : goal.invariant-loop-clause
invariant-loop-clause l = list_all (λ (c : Clause). list_all is_small c.heap.chunks) (take l.clause-index l.clauses) ≡ true
