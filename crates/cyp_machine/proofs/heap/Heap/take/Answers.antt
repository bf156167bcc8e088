use Rattle.std.proofs.Common.{IsTrue, subst, sym, w64, ◌∙◌}
use Rattle.std.proofs.lemmas.Int.{to_z-of_z}
use Rattle.cyp_heap.specs.Stores.{Store}
use Rattle.cyp_machine.proofs.LowBases.{low_along, low_made}
use Rattle.cyp_machine.proofs.Undone.{undone_at}
use Rattle.cyp_machine.specs.Steps.{addresses, has_none}
use Rattle.cyp_machine.proofs.heap.Heap.take.Goals as goal

pub invariant_of-self-in-Err : goal.invariant_of-self-in-Err
invariant_of-self-in-Err c =
    low_along c.self.inside.store c.remove_cells.new.self c.self.inside.low
    (undone_at c.self.inside.store c.put_block.new.self c.remove_cells.new.self c.args.base _ c.args.size (to_z-of_z w64 c.args.base c.ranges.base)
    (subst (λ (h : Store). IsTrue (has_none h.cells (addresses c.args.base c.args.size))) (sym c.self.view_is) c.requires.free.1)
    (c.in-Err.ensures.err ∙ c.in_ok-add_cells.ensures.ok) c.remove_cells.ensures)
    c.self.invariant

pub returns-in-Err-clause-err : goal.returns-in-Err-clause-err
returns-in-Err-clause-err c =
    undone_at c.self.inside.store c.put_block.new.self c.remove_cells.new.self c.args.base _ c.args.size (to_z-of_z w64 c.args.base c.ranges.base)
    (subst (λ (h : Store). IsTrue (has_none h.cells (addresses c.args.base c.args.size))) (sym c.self.view_is) c.requires.free.1)
    (c.in-Err.ensures.err ∙ c.in_ok-add_cells.ensures.ok) c.remove_cells.ensures
    ∙ c.self.view_is

pub invariant_of-self-in_default : goal.invariant_of-self-in_default
invariant_of-self-in_default c =
    low_made c.self.inside.store c.add_cells.new.self c.put_block.new.self c.self.inside.low _ c.args.size c.in_ok-add_cells.ensures.ok c.in_default.ensures.ok
    c.self.invariant
