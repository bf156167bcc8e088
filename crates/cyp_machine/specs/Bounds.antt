-- How large the numbers of a run's states are.
use Rattle.std.specs.Prelude.{[], ◌*◌, ◌+◌, List, Some, neg_ℤ, pos, ℕ, ℤ, ◌∷◌, ◌≡◌, ◌≤ℤ◌}
use Rattle.std.specs.FinMap.{get}
use Rattle.cyp_heap.specs.Stores.{Store}
use Rattle.cyp_machine.specs.States.{Frame, State}
use Rattle.cyp_machine.specs.Values.{Values, lookup}

-- the integer is at most b in size
pub record IsWithin (b : ℕ) (z : ℤ) : Type 0 where
  pub above : neg_ℤ (pos b) ≤ℤ z
  pub below : z ≤ℤ pos b

-- addresses, contents and bases are at most b in size
pub record StoreBounded (b : ℕ) (h : Store) : Type 0 where
  pub addresses : (a z : ℤ) → get h.cells a ≡ Some z → IsWithin b a
  pub contents : (a z : ℤ) → get h.cells a ≡ Some z → IsWithin b z
  pub bases : (a : ℤ) (n : ℕ) → get h.blocks a ≡ Some n → IsWithin b a

-- the value of each variable is at most b in size
abbrev pub ValuesBounded : ℕ → Values → Type 0
ValuesBounded b vs = (v : ℕ) → IsWithin b (lookup vs v)

-- so are those of all running bodies
abbrev pub FramesBounded : ℕ → List Frame → Type 0
FramesBounded b [] = Unit {0}
FramesBounded b (f ∷ fs) = ValuesBounded b f.values × FramesBounded b fs

-- all numbers of the state are at most b in size
pub record IsBounded (b : ℕ) (s : State) : Type 0 where
  pub store : StoreBounded b s.store
  pub frames : FramesBounded b s.frames

-- how large numbers may be after so many steps: 2 ^ 33 at first, and 2 ^ 32 more with each step
abbrev pub bound : ℕ → ℕ
bound steps = (2 + steps) * 4294967296
