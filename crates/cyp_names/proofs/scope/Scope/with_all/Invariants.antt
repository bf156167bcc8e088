use Rattle.std.proofs.Common.{◌≡◌}
use Rattle.std.specs.Vec.Iter.{into_iter_items}
use Rattle.cyp_term.specs.Terms.{with_all_new}
use Rattle.cyp_names.specs.Uses.{same_name}
use Rattle.cyp_names.proofs.scope.Scope.with_all.Given as goal

abbrev pub invariant-loop-name : goal.invariant-loop-name
invariant-loop-name l = with_all_new same_name l.scope (into_iter_items l.name-iterator) ≡ with_all_new same_name l.fn.self l.fn.names.items
