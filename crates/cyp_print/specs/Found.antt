-- Derivations that a search of goals finds.
use Rattle.std.specs.Prelude.{ℕ}
use Rattle.cyp_kernel.specs.Companions.{Proof}
use Rattle.cyp_moves.specs.Moves.{moves}
use Rattle.cyp_tree.specs.Follows.{Follows}

-- each goal is solved by one of its moves, where this many instances may be opened
abbrev pub IsFound : Proof → Type 0
IsFound d = (limit : ℕ) × Follows (moves limit) d
