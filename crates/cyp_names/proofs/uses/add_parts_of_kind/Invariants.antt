use Rattle.std.proofs.Common.{◌≡◌, ◌++◌, drop, flat_map}
use Rattle.cyp_names.specs.Orders.{kind_uses}
use Rattle.cyp_names.proofs.uses.add_parts_of_kind.Given as goal

abbrev pub invariant-loop-part : goal.invariant-loop-part
invariant-loop-part l = l.uses.items ++ flat_map (kind_uses l.kinds) (drop l.part-index l.parts) ≡ l.initial.uses.items ++ flat_map (kind_uses l.kinds) l.parts
