use Rattle.cyp_heap.specs.declared.pred.Clause.{Clause}
use Rattle.cyp_heap.specs.declared.pred.Pred.{Pred}
use Rattle.cyp_sound.specs.Kept.{is_small}
use Rattle.std.proofs.Common.{take, true, ◌≡◌}
use Rattle.std.specs.List.{list_all}
use Rattle.cyp_sound.proofs.kept.keep_list.Given as goal

abbrev pub invariant-loop-pred : goal.invariant-loop-pred
invariant-loop-pred l = list_all (λ (q : Pred). list_all (λ (c : Clause). list_all is_small c.heap.chunks) q.clauses) (take l.pred-index l.list) ≡ true
