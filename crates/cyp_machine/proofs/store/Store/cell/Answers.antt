use Rattle.std.proofs.Common.{ap, w64, ◌∙◌}
use Rattle.std.proofs.lemmas.Int.{to_z-of_z}
use Rattle.std.specs.FinMap.{get}
use Rattle.cyp_heap.specs.Stores.{Store}
use Rattle.cyp_machine.proofs.Maps.{read_view}
use Rattle.cyp_machine.proofs.store.Store.cell.Goals as goal

pub returns : goal.returns
returns c =
    c.copied.ensures ∙ c.get.ensures.value ∙ read_view c.self.inside.cells.entries c.args.address _ (to_z-of_z w64 c.args.address c.ranges.address)
    ∙ ap (λ (h : Store). get h.cells c.args.address) c.self.view_is
