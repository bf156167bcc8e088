use Rattle.std.proofs.Common.{◌≡◌, ◌++◌}
use Rattle.std.specs.Vec.Iter.{into_iter_items}
use Rattle.cyp_call.specs.CallsOf.{calls_by}
use Rattle.cyp_call.proofs.calls.add_calls.Given as goal

abbrev pub invariant-loop-one : goal.invariant-loop-one
invariant-loop-one l = l.rules.items ++ calls_by l.link (into_iter_items l.one-iterator) ≡ l.initial.rules.items ++ calls_by l.link l.fn.found
