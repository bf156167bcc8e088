use Rattle.std.proofs.Common.{ap, w64, ◌∙◌}
use Rattle.std.proofs.lemmas.Int.{to_z-of_z}
use Rattle.std.specs.FinMap.{from_entries, insert}
use Rattle.cyp_heap.specs.Stores.{Store}
use Rattle.cyp_machine.proofs.Maps.{inserted_view}
use Rattle.cyp_machine.proofs.store.Store.put_cell.Goals as goal

pub returns-clause-ok : goal.returns-clause-ok
returns-clause-ok c =
    (λ i. record {
      cells = inserted_view c.self.inside.cells.entries c.insert.new.self.entries c.args.address _ c.args.content _ (to_z-of_z w64 c.args.address c.ranges.address) (to_z-of_z w64 c.args.content c.ranges.content) c.in_ok-insert.ensures.updates.0 i;
      blocks = from_entries c.self.inside.blocks.entries;
    })
    ∙ ap (λ (h : Store). let g : Store = record { cells = insert h.cells c.args.address c.args.content; blocks = h.blocks } in g) c.self.view_is
