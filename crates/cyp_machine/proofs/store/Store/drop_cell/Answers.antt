use Rattle.std.proofs.Common.{ap, w64, ◌∙◌}
use Rattle.std.proofs.lemmas.Int.{to_z-of_z}
use Rattle.std.specs.FinMap.{from_entries, remove}
use Rattle.cyp_heap.specs.Stores.{Store}
use Rattle.cyp_machine.proofs.Maps.{removed_view}
use Rattle.cyp_machine.proofs.store.Store.drop_cell.Goals as goal

pub returns : goal.returns
returns c =
    (λ i. record {
      cells = removed_view c.self.inside.cells.entries c.remove.new.self.entries c.args.address _ (to_z-of_z w64 c.args.address c.ranges.address) c.remove.ensures.updates.0 i;
      blocks = from_entries c.self.inside.blocks.entries;
    })
    ∙ ap (λ (h : Store). let g : Store = record { cells = remove h.cells c.args.address; blocks = h.blocks } in g) c.self.view_is
