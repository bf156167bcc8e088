use Rattle.cyp_machine.proofs.store.Store.+remove_cells.Given as goal

abbrev pub decreases-remove_cells : goal.decreases-remove_cells
decreases-remove_cells l = l.count
