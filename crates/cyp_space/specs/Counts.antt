use Rattle.std.specs.Prelude.{ℕ, ◌+◌, List, [], ◌∷◌, map}
use Rattle.cyp_space.specs.declared.solved.Solved.{Solved}
use Rattle.cyp_space.specs.declared.solved.Solved.TheOpen.{Solved-F}
use Rattle.cyp_space.specs.declared.solved.Solved.TheFolds.{fold-Solved}

-- the sum of a list
abbrev pub sum_of : List ℕ → ℕ
sum_of [] = 0
sum_of (n ∷ ns) = n + sum_of ns

-- one level, with the count of each part in its place
abbrev pub solved_step : {R N : Type 0} → Solved-F R N ℕ → ℕ
solved_step f = 1 + sum_of f.parts

-- the number of nodes of a derivation
abbrev pub solved_count : {R N : Type 0} → Solved R N → ℕ
solved_count {R} {N} = fold-Solved R N ℕ solved_step

-- the number of nodes of several derivations together
abbrev pub solveds_count : {R N : Type 0} → List (Solved R N) → ℕ
solveds_count parts = sum_of (map solved_count parts)
