-- What a queue keeps: a heap with room, whose entries in order are the queue's.
use Rattle.std.specs.Prelude.{ℕ, ◌+◌, ◌≤◌, List, [], ◌∷◌, map}
use Rattle.std.specs.BinaryHeap.{IsHeap}
use Rattle.std.specs.Ordering.{nat_cmp, ordering_then}
use Rattle.std.specs.declared.cmp.Ordering.{Ordering}
use Rattle.std.specs.declared.cmp.Reverse.{Reverse}
use Rattle.cyp_queue.specs.declared.entry.Entry.{Entry}
use Rattle.cyp_queue.specs.Entries.{put_entry}

-- the greatest of the heap is the entry that comes first
abbrev pub heap_order : Reverse Entry → Reverse Entry → Ordering
heap_order x y = ordering_then (nat_cmp y.0.priority x.0.priority) (nat_cmp y.0.leaf x.0.leaf)

-- entries put in order, one after the other
abbrev pub in_order : List Entry → List Entry
in_order [] = []
in_order (x ∷ xs) = put_entry x (in_order xs)

-- the entries of a heap, in order
abbrev pub entries_of : List (Reverse Entry) → List Entry
entries_of items = in_order (map (λ x. x.0) items)

-- the heap is one by its order, and has room for as many more as the queue says
pub record IsKept (items : List (Reverse Entry)) (len capacity spare : ℕ) : Type 0 where
  pub ordered : IsHeap heap_order items
  pub room : len + spare ≤ capacity
