-- The places of a memo, and the moves that stand there.
use Rattle.std.specs.Prelude.{ℕ, ◌+◌, Bool, List, [], ◌∷◌, ◌++◌, Option, Some, None, is_some, if◌then◌else◌}
use Rattle.std.specs.Map.{lookup}
use Rattle.cyp_space.specs.Alts.{AltOf, premises_in}

-- the places in the order in which they were made: a node, and its moves where they are there
abbrev pub Places : Type 0 → Type 0 → Type 0
Places R N = List (N × Option (List (AltOf R N)))

-- the moves, where there is a place and it has moves
abbrev pub moves_there : {M : Type 0} → Option (Option M) → Option M
moves_there None = None
moves_there (Some moves) = moves

module _ {R N : Type 0} (eq : N → N → Bool) where
  -- whether a node has a place
  abbrev pub has_place : Places R N → N → Bool
  has_place places n = is_some (lookup (eq n) places)

  -- the moves of a node that is in the memo
  abbrev pub moves_at : Places R N → N → Option (List (AltOf R N))
  moves_at places n = moves_there (lookup (eq n) places)

  -- the same places, and behind them one without moves for a node that has none
  abbrev pub with_place : Places R N → N → Places R N
  with_place places n = if has_place places n then places else places ++ (n, None) ∷ []

-- the number of premises of the moves at a place
abbrev pub held_at : {R N : Type 0} → Option (List (AltOf R N)) → ℕ
held_at None = 0
held_at (Some moves) = premises_in moves

-- the number of premises of all moves
abbrev pub held_in : {R N : Type 0} → Places R N → ℕ
held_in [] = 0
held_in (p ∷ places) = held_at p.1 + held_in places
