use Rattle.std.proofs.Common.{arith, ◌∙◌}
use Rattle.std.proofs.lemmas.Int.{ints}
use Rattle.cyp_machine.proofs.Undone.{room_behind, undone}
use Rattle.cyp_machine.proofs.store.Store.+add_cells.Goals as goal

pub returns-in-Err-clause-err : goal.returns-in-Err-clause-err
returns-in-Err-clause-err t c =
    undone c.args.self.now c.put_cell.new.self c.remove_cells.new.self _ _
    (room_behind c.args.self.now.cells c.args.base c.args.count _ _ (omega (arith, ints)) (omega arith) c.requires.room)
    (c.in-Err.ensures.err ∙ c.in_ok-add_cells.ensures.ok) c.remove_cells.ensures
