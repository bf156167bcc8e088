use Rattle.std.proofs.Common.{◌≡◌}
use Rattle.std.specs.List.{All}
use Rattle.std.specs.Vec.Iter.{into_iter_items}
use Rattle.cyp_heap.specs.Formed.{IsWellLinked}
use Rattle.cyp_step.proofs.FormsMade.{before}
use Rattle.cyp_step.specs.Step.{all_normal}
use Rattle.cyp_step.proofs.steps.normal_forms.Given as goal

abbrev pub invariant-loop-raw : goal.invariant-loop-raw
invariant-loop-raw l = record {
  linked : All IsWellLinked (into_iter_items l.raw-iterator);
  made : before l.forms.items (all_normal (into_iter_items l.raw-iterator)) ≡ all_normal l.fn.raws;
}
