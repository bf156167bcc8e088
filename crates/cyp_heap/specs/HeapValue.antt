use Rattle.std.specs.Prelude.{List}
use Rattle.cyp_heap.specs.declared.chunk.Chunk.{Chunk}

-- a separating product of chunks
pub record HeapValue : Type 0 where
  pub chunks : List Chunk
