use Rattle.std.proofs.Common.{◌≡◌, drop}
use Rattle.std.specs.List.{flat_map}
use Rattle.cyp_goal.specs.Counting.{with_all_few}
use Rattle.cyp_goal.proofs.elements.add_all_elements.Given as goal

abbrev pub invariant-loop-item : goal.invariant-loop-item
invariant-loop-item g l =
    with_all_few l.found.items (flat_map g.T.HasElements.elements (drop l.item-index l.items)) ≡ with_all_few l.initial.found.items (flat_map g.T.HasElements.elements l.items)
