use Rattle.std.proofs.Common.{ap, refl, w64, ◌∙◌}
use Rattle.std.proofs.lemmas.Int.{to_z-of_z}
use Rattle.std.specs.FinMap.{from_entries, insert}
use Rattle.cyp_heap.specs.Stores.{Store}
use Rattle.cyp_machine.proofs.Maps.{inserted_view}
use Rattle.cyp_machine.proofs.store.Store.put_block.Goals as goal

pub returns-clause-ok : goal.returns-clause-ok
returns-clause-ok c =
    (λ i. record {
      cells = from_entries c.self.inside.cells.entries;
      blocks = inserted_view c.self.inside.blocks.entries c.insert.new.self.entries c.args.base _ c.args.size _ (to_z-of_z w64 c.args.base c.ranges.base) refl c.in_ok-insert.ensures.updates.0 i;
    })
    ∙ ap (λ (h : Store). let g : Store = record { cells = h.cells; blocks = insert h.blocks c.args.base c.args.size } in g) c.self.view_is
