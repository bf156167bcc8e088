-- A node over other predicates, with other sizes of blocks.
use Rattle.std.specs.Prelude.{map, ℕ, ◌≡◌}
use Rattle.std.specs.Option.{option_map}
use Rattle.cyp_goal.specs.Normal.{Renaming, normal}
use Rattle.cyp_heap.specs.declared.chunk.Chunk.{Chunk}
use Rattle.cyp_heap.specs.declared.chunk.Chunk.TheVariants.{Block, Cell, Inst}
use Rattle.cyp_heap.specs.declared.goal.Goal.{Goal}
use Rattle.cyp_heap.specs.declared.goal.Node.{Node}
use Rattle.cyp_heap.specs.PredsValue.{PredsValue}

-- a block gets the size that the function gives for its own; other chunks stay
abbrev pub resized : (ℕ → ℕ) → Chunk → Chunk
resized size (Inst i) = Inst i
resized size (Block k) = Block (record { at = k.at; size = size k.size })
resized size (Cell k) = Cell k

-- the blocks of both sides get other sizes; variables and literals stay
abbrev pub resized_goal : (ℕ → ℕ) → Goal → Goal
resized_goal size g = record g { pre = record { chunks = map (resized size) g.pre.chunks }; post = record { chunks = map (resized size) g.post.chunks } }

-- the node over these predicates, with other sizes of blocks in its goal; the companions stay
abbrev pub dressed : PredsValue → (ℕ → ℕ) → Node → Node
dressed preds size n = record { preds = preds; goal = resized_goal size n.goal; links = n.links }

-- the same of a normal form; what its program variables were called stays
abbrev pub dressed_renaming : PredsValue → (ℕ → ℕ) → Renaming → Renaming
dressed_renaming preds size r = record { node = dressed preds size r.node; old = r.old }

-- the normal form looks neither at predicates nor at sizes of blocks
abbrev pub DressingLaw : Type 0
DressingLaw = (preds : PredsValue) (size : ℕ → ℕ) (n : Node) → normal (dressed preds size n) ≡ option_map (dressed_renaming preds size) (normal n)
