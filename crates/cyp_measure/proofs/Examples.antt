-- Measures of small lists.
use Rattle.std.proofs.Common.{[], ◌++◌, refl, replicate, ◌∷◌, ◌≡◌}
use Rattle.cyp_measure.specs.Levels.{levels}

one_tuple : levels ((3 ∷ []) ∷ []) ≡ 0 ∷ 3 ∷ replicate 15 0 ++ 1 ∷ replicate 50 0
one_tuple = refl

no_tuple : levels [] ≡ 1 ∷ replicate 67 0
no_tuple = refl

-- four tuples leave no group for the mark 1
four_tuples : levels ((1 ∷ []) ∷ (1 ∷ 2 ∷ []) ∷ (1 ∷ 2 ∷ 3 ∷ []) ∷ (1 ∷ 2 ∷ 3 ∷ 4 ∷ []) ∷ [])
    ≡ (0 ∷ 1 ∷ replicate 15 0) ++ (0 ∷ 1 ∷ 2 ∷ replicate 14 0) ++ (0 ∷ 1 ∷ 2 ∷ 3 ∷ replicate 13 0) ++ (0 ∷ 1 ∷ 2 ∷ 3 ∷ 4 ∷ replicate 12 0)
four_tuples = refl
