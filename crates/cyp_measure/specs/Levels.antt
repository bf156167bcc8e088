-- The numbers that a call's measure is written in, so that measures of companions inside one another are compared as one list.
use Rattle.std.specs.Prelude.{[], ◌++◌, List, replicate, take, ℕ, ◌∷◌}

-- the list with zeros behind it up to this length, cut there
abbrev pub pad : ℕ → List ℕ → List ℕ
pad n xs = take n (xs ++ replicate n 0)

-- the group of a tuple: the mark 0 and the tuple, in 17 numbers
abbrev pub group : List ℕ → List ℕ
group xs = pad 17 (0 ∷ xs)

-- the groups of the tuples, and then one with the mark 1
abbrev pub groups : List (List ℕ) → List ℕ
groups [] = pad 17 (1 ∷ [])
groups (t ∷ ts) = group t ++ groups ts

-- four groups of 17 numbers: those of the tuples in order, then one with the mark 1, then nothing but zeros.
-- A further tuple lowers a mark from 1 to 0
abbrev pub levels : List (List ℕ) → List ℕ
levels tuples = pad 68 (groups tuples)
