use Rattle.std.proofs.Common.{◌≡◌, ◌++◌}
use Rattle.std.specs.Vec.Iter.{into_iter_items}
use Rattle.cyp_step.specs.Step.{nodes_of}
use Rattle.cyp_step.proofs.rows.nodes_of.Given as goal

abbrev pub invariant-loop-premise : goal.invariant-loop-premise
invariant-loop-premise l = l.nodes.items ++ nodes_of (into_iter_items l.premise-iterator) ≡ nodes_of l.fn.renamed
