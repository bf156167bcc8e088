-- Cardinalities one by one.
use Rattle.std.specs.Prelude.{Some, suc, ℕ}
use Rattle.cyp_heap.specs.declared.chunk.Chunk.{Chunk}
use Rattle.cyp_heap.specs.declared.chunk.Chunk.TheVariants.{Block, Cell, Inst}
use Rattle.cyp_term.specs.declared.term.Sort.TheVariants.{Card}

-- an instance gets the cardinality of this number
abbrev pub with_card : ℕ → Chunk → Chunk
with_card k (Inst i) = Inst (record i { card = Some (record { sort = Card; number = k }) })
with_card k (Block b) = Block b
with_card k (Cell c) = Cell c

-- the number of the next cardinality
abbrev pub next_card : ℕ → Chunk → ℕ
next_card k (Inst i) = suc k
next_card k (Block b) = k
next_card k (Cell c) = k
