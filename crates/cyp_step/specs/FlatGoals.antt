-- The goals that the rules which unfold nothing leave to do, as the rules change them.
use Rattle.std.specs.Prelude.{[], ◌&&◌, ◌++◌, ◌==◌, Bool, List, None, Option, Some, false, length, map, not, option_map, slice_set, suc, true, ◌||◌, ℕ, ◌∷◌}
use Rattle.std.specs.List.{list_all}
use Rattle.cyp_heap.specs.Chunks.{insts, put, put_all, without}
use Rattle.cyp_heap.specs.declared.chunk.BlockAt.{BlockAt}
use Rattle.cyp_heap.specs.declared.chunk.CellAt.{CellAt}
use Rattle.cyp_heap.specs.declared.chunk.Chunk.{Chunk}
use Rattle.cyp_heap.specs.declared.chunk.Chunk.TheVariants.{Block, Cell}
use Rattle.cyp_heap.specs.declared.goal.Goal.{Goal}
use Rattle.cyp_pred.specs.Unfold.{new_ints}
use Rattle.cyp_step.specs.FlatRules.{block_cells, equal_vars, first_place, has_exist, is_bare_open, is_cell_at, is_place, is_universal, new_cells, occurs_elsewhere, pair_at, without_cells}
use Rattle.cyp_step.specs.Shown.{is_open, is_program_expr, shown}
use Rattle.cyp_term.specs.Terms.{var_term}
use Rattle.cyp_term.specs.declared.lit.Lit.{Lit}
use Rattle.cyp_term.specs.declared.lit.Lit.TheVariants.{Eq}
use Rattle.cyp_term.specs.declared.term.Sort.{Sort}
use Rattle.cyp_term.specs.declared.term.Var.{Var}
use Rattle.cyp_unify.specs.declared.found.Pair.{Pair}

-- the chunk, where it is a cell
abbrev pub cell_in : Option Chunk → Option CellAt
cell_in (Some (Cell c)) = Some c
cell_in _ = None

-- the chunk, where it is a block
abbrev pub block_in : Option Chunk → Option BlockAt
block_in (Some (Block b)) = Some b
block_in _ = None

-- the goal under a side condition
abbrev pub goal_where : Bool → Goal → Option Goal
goal_where true g = Some g
goal_where false g = None

-- the goal with other chunks in its precondition
abbrev pub with_pre : Goal → List Chunk → Goal
with_pre g cs = record g { pre = record { chunks = cs } }

-- ---- Read

-- the cell can be read, and that is of use
abbrev pub can_be_read : Goal → CellAt → Bool
can_be_read g c = is_program_expr g c.at && not (is_program_expr g c.content) && occurs_elsewhere g c.content

-- a new program variable takes the place of the cell's content
abbrev pub read_goal : Goal → ℕ → Var → CellAt → Goal
read_goal g i y c = record g {
  program = g.program ++ y ∷ [];
  pure_pre = g.pure_pre ++ Eq (var_term y) c.content ∷ [];
  pre = record { chunks = slice_set g.pre.chunks i (Cell (record { at = c.at; content = var_term y })) };
}

-- the goal after a read of this cell into the variable, where it is allowed
abbrev pub after_read : Goal → ℕ → Var → Option CellAt → Option Goal
after_read g i y None = None
after_read g i y (Some c) = goal_where (can_be_read g c) (read_goal g i y c)

-- ---- Frame

-- the literals of the pair with this chunk of the pre
abbrev pub lits_at : ℕ → List Pair → Option (List Lit)
lits_at i ps = option_map (λ (p : Pair). p.lits) (pair_at i ps)

-- each of the literals has an existential or is shown
abbrev pub can_be_framed : Goal → List Lit → Bool
can_be_framed g ls = list_all (λ l. is_open g l || shown g (l ∷ [])) ls

-- the focus and the chunk go, and the literals are left to show
abbrev pub framed_goal : Goal → ℕ → List Lit → Goal
framed_goal g i ls = record g { pre = record { chunks = without g.pre.chunks i }; pure_post = g.pure_post ++ ls; post = record { chunks = without g.post.chunks 0 } }

-- the goal after the focus is framed by a chunk that these literals make equal to it, where it is allowed
abbrev pub after_frame : Goal → ℕ → Option (List Lit) → Option Goal
after_frame g i None = None
after_frame g i (Some ls) = goal_where (can_be_framed g ls) (framed_goal g i ls)

-- ---- Write

-- the program can store the focus's content in the cell
abbrev pub can_be_written : Goal → CellAt → CellAt → Bool
can_be_written g f c = not (has_exist g f.at) && is_program_expr g c.at && is_program_expr g f.content

-- it is the first cell at the focus's address, and its content isn't shown to be that of the focus
abbrev pub is_to_be_written : Goal → ℕ → CellAt → CellAt → Bool
is_to_be_written g i f c = can_be_written g f c && is_place i (first_place (is_cell_at g f.at) 0 g.pre.chunks) && not (shown g (Eq f.content c.content ∷ []))

-- the goal after the focus's content is stored in the cell, where it is allowed
abbrev pub after_write : Goal → ℕ → Option CellAt → Option CellAt → Option Goal
after_write g i (Some f) (Some c) =
    goal_where (is_to_be_written g i f c) (with_pre g (slice_set g.pre.chunks i (Cell (record { at = c.at; content = f.content }))))
after_write g i _ _ = None

-- ---- Free

-- the block can be freed if its cells are there
abbrev pub can_be_freed : Goal → BlockAt → Bool
can_be_freed g b = length g.post.chunks == 0 && is_program_expr g b.at

-- the goal after the block is freed, where it is allowed
abbrev pub after_free : Goal → ℕ → Option BlockAt → Option Goal
after_free g i None = None
after_free g i (Some b) = elim (can_be_freed g b) [
  | false ↦ None
  | true ↦ option_map (with_pre g) (without_cells (block_cells b.at b.size) (without g.pre.chunks i))
]

-- ---- Pick

-- an existential of this sort may be taken to be the variable
abbrev pub can_be_picked : Goal → Sort → Var → Bool
can_be_picked g s u = length (insts g.post.chunks) == 0 && is_universal g s u

-- one more literal is left to show
abbrev pub with_post_lit : Goal → Lit → Goal
with_post_lit g l = record g { pure_post = g.pure_post ++ l ∷ [] }

-- the goal where the existential is this variable, where that is allowed
abbrev pub after_pick : Goal → Var → Option Var → Option Goal
after_pick g u None = None
after_pick g u (Some v) = goal_where (can_be_picked g v.sort u) (with_post_lit g (equal_vars v u))

-- ---- Alloc

-- a block at the variable, with cells whose contents are the variables behind it
abbrev pub with_block : List Chunk → Var → ℕ → List Chunk
with_block cs z n =
    put_all (put cs (Block (record { at = var_term z; size = n }))) (new_cells (var_term z) 0 (map var_term (new_ints (suc z.number) n)))

-- a block as large as this one at the new program variable, which the base of this one is to be
abbrev pub allocated_goal : Goal → Var → BlockAt → Goal
allocated_goal g z f = record g {
  program = g.program ++ z ∷ [];
  pre = record { chunks = with_block g.pre.chunks z f.size };
  pure_post = g.pure_post ++ Eq f.at (var_term z) ∷ [];
}

-- the goal after a block is allocated at a new program variable, where it is allowed
abbrev pub after_alloc : Goal → Var → Option BlockAt → Option Goal
after_alloc g z None = None
after_alloc g z (Some f) = goal_where (is_bare_open g f.at) (allocated_goal g z f)
