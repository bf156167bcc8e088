use Rattle.std.proofs.Common.{ap, w64, ◌∙◌}
use Rattle.std.proofs.lemmas.Int.{to_z-of_z}
use Rattle.std.specs.FinMap.{from_entries, remove}
use Rattle.cyp_heap.specs.Stores.{Store}
use Rattle.cyp_machine.proofs.Maps.{removed_view}
use Rattle.cyp_machine.proofs.store.Store.drop_block.Goals as goal

pub returns : goal.returns
returns c =
    (λ i. record {
      cells = from_entries c.self.inside.cells.entries;
      blocks = removed_view c.self.inside.blocks.entries c.remove.new.self.entries c.args.base _ (to_z-of_z w64 c.args.base c.ranges.base) c.remove.ensures.updates.0 i;
    })
    ∙ ap (λ (h : Store). let g : Store = record { cells = h.cells; blocks = remove h.blocks c.args.base } in g) c.self.view_is
