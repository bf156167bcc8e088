-- Concrete heaps: cells and blocks, and how two of them lie side by side.
use Rattle.std.specs.Prelude.{None, ◌<ℤ◌, ◌≡◌, ◌⊎◌, ℕ, ℤ, pos}
use Rattle.std.specs.FinMap.{FinMap, empty, get, insert, len}
use Rattle.std.specs.Ordering.{int_cmp}

-- a finite map of cells, from addresses to values, and one of blocks, from bases to sizes. After SuSLik's heaps
pub record Store : Type 0 where
  pub cells : FinMap int_cmp ℤ
  pub blocks : FinMap int_cmp ℕ

-- neither a cell nor a block
abbrev pub no_store : Store
no_store = record { cells = empty; blocks = empty }

-- the map has just what one of the two has, and no key is in both
abbrev pub IsDisjointUnion : {A : Type 0} → FinMap int_cmp A → FinMap int_cmp A → FinMap int_cmp A → Type 0
IsDisjointUnion all a b =
    (z : ℤ) → ((get a z ≡ None) × (get all z ≡ get b z)) ⊎ ((get b z ≡ None) × (get all z ≡ get a z))

-- the heap is the union of two with no cell address and no block base in common
abbrev pub IsUnion : Store → Store → Store → Type 0
IsUnion all a b = IsDisjointUnion all.cells a.cells b.cells × IsDisjointUnion all.blocks a.blocks b.blocks

-- one cell at a positive address and nothing else
abbrev pub IsCell : Store → ℤ → ℤ → Type 0
IsCell h at v = (pos 0 <ℤ at) × (h.cells ≡ insert empty at v) × (h.blocks ≡ empty)

-- one block at a positive base and nothing else
abbrev pub IsBlock : Store → ℤ → ℕ → Type 0
IsBlock h at n = (pos 0 <ℤ at) × (h.cells ≡ empty) × (h.blocks ≡ insert empty at n)

-- how many cells there are
abbrev pub cell_count : Store → ℕ
cell_count h = len h.cells
