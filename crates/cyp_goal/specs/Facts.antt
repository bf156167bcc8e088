-- The facts of a goal.
use Rattle.std.specs.Prelude.{[], ◌++◌, List, cond, flat_map, not, ◌||◌, ◌∷◌}
use Rattle.cyp_heap.specs.declared.chunk.Chunk.{Chunk}
use Rattle.cyp_heap.specs.declared.chunk.Chunk.TheVariants.{Block, Cell, Inst}
use Rattle.cyp_heap.specs.declared.goal.Goal.{Goal}
use Rattle.cyp_term.specs.Terms.{base_eq, term_eq}
use Rattle.cyp_term.specs.declared.lit.Lit.{Lit}
use Rattle.cyp_term.specs.declared.lit.Lit.TheVariants.{Ne}
use Rattle.cyp_term.specs.declared.term.Term.{Term}

-- the address of a cell; other chunks give none
abbrev pub cell_address : Chunk → List Term
cell_address (Inst i) = []
cell_address (Block k) = []
cell_address (Cell k) = k.at ∷ []

-- the base of a block; other chunks give none
abbrev pub block_address : Chunk → List Term
block_address (Inst i) = []
block_address (Block k) = k.at ∷ []
block_address (Cell k) = []

-- the addresses of the cells among the chunks, in order
abbrev pub cell_addresses : List Chunk → List Term
cell_addresses cs = flat_map cell_address cs

-- the bases of the blocks among the chunks, in order
abbrev pub block_addresses : List Chunk → List Term
block_addresses cs = flat_map block_address cs

-- that two addresses differ, where their bases differ or they are the same
abbrev pub apart : Term → Term → List Lit
apart a b = cond (not (base_eq a.base b.base) || term_eq a b) (Ne a b ∷ []) []

-- for each two of these in order
abbrev pub all_apart : List Term → List Lit
all_apart [] = []
all_apart (t ∷ ts) = flat_map (apart t) ts ++ all_apart ts

-- the pure precondition, that cells lie apart, and that blocks do
abbrev pub facts : Goal → List Lit
facts g = g.pure_pre ++ all_apart (cell_addresses g.pre.chunks) ++ all_apart (block_addresses g.pre.chunks)
