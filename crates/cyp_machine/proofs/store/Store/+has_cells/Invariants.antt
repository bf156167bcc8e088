use Rattle.cyp_machine.proofs.store.Store.+has_cells.Given as goal

abbrev pub decreases-has_cells : goal.decreases-has_cells
decreases-has_cells l = l.count
