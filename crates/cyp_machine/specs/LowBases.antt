-- A base below which no block can begin.
use Rattle.std.specs.FinMap.{get}
use Rattle.std.specs.Prelude.{Bool, is_none, pos, suc, ℕ, ℤ, ◌&&◌, ◌<ℤ◌, ◌^◌, ◌≤ℤ◌}
use Rattle.cyp_heap.specs.Stores.{Store}
use Rattle.cyp_machine.specs.Steps.{IsFree, addresses, has_none}

-- neither a block with this base nor any of the cells is there
abbrev pub has_place : Store → ℤ → ℕ → Bool
has_place h a n = is_none (get h.blocks a) && has_none h.cells (addresses a n)

-- no block of one cell or more can begin below this base
pub record IsLow (h : Store) (low : ℤ) : Type 0 where
  pub positive : pos 0 <ℤ low
  pub small : low ≤ℤ pos (2 ^ 60)
  pub least : (a : ℤ) (n : ℕ) → IsFree h a (suc n) → low ≤ℤ a
