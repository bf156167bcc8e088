-- When one side of a goal holds in an assignment and a heap.
use Rattle.std.specs.Prelude.{None, Option, Some, [], List, pos, ℕ, ◌∷◌, ◌≡◌}
use Rattle.cyp_heap.specs.Instances.{ChunksHold, InstanceHolds}
use Rattle.cyp_heap.specs.Stores.{Store}
use Rattle.cyp_heap.specs.declared.chunk.Chunk.{Chunk}
use Rattle.cyp_heap.specs.declared.chunk.Chunk.TheVariants.{Block, Cell, Inst}
use Rattle.cyp_heap.specs.declared.pred.Preds.{Preds}
use Rattle.cyp_term.specs.Meaning.{AllTrue, Assignment}
use Rattle.cyp_term.specs.declared.lit.Lit.{Lit}
use Rattle.cyp_term.specs.declared.term.Var.{Var}

-- the cardinality, where there is one, has this number as its value
abbrev pub CardIs : Assignment → Option Var → ℕ → Type 0
CardIs s None n = Unit {0}
CardIs s (Some c) n = s.number c ≡ pos n

-- the cardinality of each instance has the instance's number as its value
abbrev pub CardsAre : Assignment → List Chunk → List ℕ → Type 0
CardsAre s [] ns = Unit {0}
CardsAre s (Inst i ∷ cs) [] = ⊥
CardsAre s (Inst i ∷ cs) (n ∷ ns) = CardIs s i.card n × CardsAre s cs ns
CardsAre s (Block k ∷ cs) ns = CardsAre s cs ns
CardsAre s (Cell k ∷ cs) ns = CardsAre s cs ns

-- the literals are true, and the heap is the union of the heaps of the chunks, the k-th instance holding at the k-th number
abbrev pub SideHolds : Preds → Assignment → List Lit → List Chunk → Store → List ℕ → Type 0
SideHolds preds s lits chunks h ns = AllTrue s lits × ChunksHold (InstanceHolds preds) s chunks h ns × CardsAre s chunks ns
