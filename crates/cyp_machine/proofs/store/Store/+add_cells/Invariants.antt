use Rattle.cyp_machine.proofs.store.Store.+add_cells.Given as goal

abbrev pub decreases-add_cells : goal.decreases-add_cells
decreases-add_cells l = l.count
