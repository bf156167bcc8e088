use Rattle.std.proofs.Common.{◌++◌, ◌≡◌, drop, map}
use Rattle.cyp_reading.specs.Items.{items_lits}
use Rattle.cyp_names.specs.ReadTerms.{read_lit}
use Rattle.cyp_reading.proofs.literals.add_items.Given as goal

abbrev pub invariant-loop-item : goal.invariant-loop-item
invariant-loop-item l = l.lits.items ++ map (read_lit l.scope) (items_lits (drop l.item-index l.items)) ≡ l.initial.lits.items ++ map (read_lit l.scope) (items_lits l.items)
