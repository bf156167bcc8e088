use Rattle.std.specs.Prelude.{◌≡◌, true}
use Rattle.std.proofs.Common.{arith, rules}
use Rattle.cyp_heap.specs.BlockValue.{BlockValue}
use Rattle.cyp_heap.specs.HeapValue.{HeapValue}
use Rattle.cyp_heap.specs.contracts.chunk.ArgPartialEq.TheImpl.{ghosts as arg_ghosts}
use Rattle.cyp_heap.specs.contracts.chunk.BlockAtPartialEq.TheImpl.{ghosts as block_ghosts}
use Rattle.cyp_heap.specs.contracts.chunk.CellAtPartialEq.TheImpl.{ghosts as cell_ghosts}
use Rattle.cyp_heap.specs.contracts.chunk.ChunkPartialEq.TheImpl.{ghosts as chunk_ghosts}
use Rattle.cyp_heap.specs.contracts.chunk.HeapPartialEq.TheImpl.{ghosts as heap_ghosts}
use Rattle.cyp_heap.specs.contracts.chunk.InstOfPartialEq.TheImpl.{ghosts as inst_ghosts}
use Rattle.cyp_heap.specs.declared.chunk.Arg.{Arg}
use Rattle.cyp_heap.specs.declared.chunk.Arg.TheVariants.{Int as IntArg, Set as SetArg}
use Rattle.cyp_heap.specs.declared.chunk.CellAt.{CellAt}
use Rattle.cyp_heap.specs.declared.chunk.Chunk.{Chunk}
use Rattle.cyp_heap.specs.declared.chunk.Chunk.TheVariants.{Block, Cell, Inst}
use Rattle.cyp_heap.specs.declared.chunk.InstOf.{InstOf}
use Rattle.cyp_term.specs.ExactLits.{exact_set_term, exact_term}
use Rattle.cyp_term.specs.Exactly.{exact_lists}

-- arguments that are equal by `==` are the same term
pub exact_arg : (x y : Arg) → (arg_ghosts).eq x y ≡ true → x ≡ y
exact_arg (IntArg a) (IntArg b) e = grind (arith, exact_term a b)
exact_arg (SetArg a) (SetArg b) e = grind (arith, exact_set_term a b)
exact_arg x y e = cc

-- cells that are equal by `==` have the same address and the same content
pub exact_cell : (x y : CellAt) → (cell_ghosts).eq x y ≡ true → x ≡ y
exact_cell x y e = grind (arith, exact_term x.at y.at, exact_term x.content y.content)

-- blocks that are equal by `==` have the same base and the same size
pub exact_block : (x y : BlockValue) → (block_ghosts).eq x y ≡ true → x ≡ y
exact_block x y e = grind (arith, exact_term x.at y.at)

-- instances that are equal by `==` have the same predicate, arguments, cardinality and tag
pub exact_inst : (x y : InstOf) → (inst_ghosts).eq x y ≡ true → x ≡ y
exact_inst x y e = grind (rules, exact_lists exact_arg x.args y.args)

-- chunks that are equal by `==` are of one kind and have the same parts
pub exact_chunk : (x y : Chunk) → (chunk_ghosts).eq x y ≡ true → x ≡ y
exact_chunk (Inst a) (Inst b) e = grind (arith, exact_inst a b)
exact_chunk (Block a) (Block b) e = grind (arith, exact_block a b)
exact_chunk (Cell a) (Cell b) e = grind (arith, exact_cell a b)
exact_chunk x y e = cc

-- heaps that are equal by `==` have the same chunks in the same order
pub exact_heap : (x y : HeapValue) → (heap_ghosts).eq x y ≡ true → x ≡ y
exact_heap x y e = grind (arith, exact_lists exact_chunk x.chunks y.chunks)
