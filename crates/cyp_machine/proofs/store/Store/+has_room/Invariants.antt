use Rattle.cyp_machine.proofs.store.Store.+has_room.Given as goal

abbrev pub decreases-has_room : goal.decreases-has_room
decreases-has_room l = l.count
