use Rattle.std.proofs.Common.{◌≡◌, List, Option, length}
use Rattle.cyp_tree.specs.Places.{IsLive}
use Rattle.cyp_queue.specs.declared.entry.Entry.{Entry}
use Rattle.cyp_queue.specs.Entries.{PopsAlive}
use Rattle.cyp_queue.proofs.queue.Queue.pop_alive.Given as goal

abbrev pub invariant-loop-entry : goal.invariant-loop-entry
invariant-loop-entry g l = record {
  rest : (taken : Option Entry) (after : List Entry) → PopsAlive (IsLive l.tree) l.self.entries taken after → PopsAlive (IsLive l.tree) l.fn.self.entries taken after;
  spare : l.self.spare ≡ l.fn.self.spare;
}

abbrev pub decreases-loop-entry : goal.decreases-loop-entry
decreases-loop-entry g l = length l.self.entries
