use Rattle.std.proofs.Common.{subst, sym, w64, ℤ}
use Rattle.std.proofs.lemmas.Int.{to_z-of_z}
use Rattle.std.proofs.Common.{rules}
use Rattle.cyp_machine.proofs.LowBases.{low_behind}
use Rattle.cyp_machine.specs.LowBases.{IsLow}
use Rattle.cyp_machine.proofs.heap.Heap.give.Goals as goal

pub invariant_of-self : goal.invariant_of-self
invariant_of-self c =
    subst (λ (z : ℤ). IsLow c.drop_block.new.self z) (sym (to_z-of_z w64 c.lower-self-inside.result (search rules)))
    (low_behind c.self.inside.store c.remove_cells.new.self c.drop_block.new.self _ _ c.in-Some.size c.lower-self-inside.result c.remove_cells.ensures c.drop_block.ensures
    (subst (λ (z : ℤ). IsLow c.self.inside.store z) (sym (to_z-of_z w64 c.self.inside.low (search rules))) c.self.invariant)
    c.lower-self-inside.ensures.positive c.lower-self-inside.ensures.low c.lower-self-inside.ensures.base)
