use Rattle.std.proofs.Common.{◌≡◌, ◌++◌, drop, flat_map}
use Rattle.cyp_names.specs.Orders.{item_uses}
use Rattle.cyp_names.proofs.body_uses.add_items.Given as goal

abbrev pub invariant-loop-item : goal.invariant-loop-item
invariant-loop-item l = l.uses.items ++ flat_map (λ p. item_uses l.order p.1) (drop l.item-index l.items) ≡ l.initial.uses.items ++ flat_map (λ p. item_uses l.order p.1) l.items
