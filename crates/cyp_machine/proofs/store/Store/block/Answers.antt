use Rattle.std.proofs.Common.{ap, w64, ◌∙◌}
use Rattle.std.proofs.lemmas.Int.{to_z-of_z}
use Rattle.std.specs.FinMap.{get}
use Rattle.cyp_heap.specs.Stores.{Store}
use Rattle.cyp_machine.proofs.Maps.{read_view}
use Rattle.cyp_machine.proofs.store.Store.block.Goals as goal

pub returns : goal.returns
returns c =
    c.copied.ensures ∙ c.get.ensures.value ∙ read_view c.self.inside.blocks.entries c.args.base _ (to_z-of_z w64 c.args.base c.ranges.base)
    ∙ ap (λ (h : Store). get h.blocks c.args.base) c.self.view_is
