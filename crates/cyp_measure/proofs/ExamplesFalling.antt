-- Measures compared, computed.
use Rattle.std.proofs.Common.{◌≡◌, ℕ, [], ◌∷◌, refl}
use Rattle.cyp_measure.specs.Decrease.{decreases}
use Rattle.cyp_term.specs.Terms.{var_term}
use Rattle.cyp_term.specs.declared.lit.Lit.TheVariants.{Le, Lt}
use Rattle.cyp_term.specs.declared.term.Sort.TheVariants.{Card}
use Rattle.cyp_term.specs.declared.term.Term.{Term}

-- a cardinality
abbrev K : ℕ → Term
K n = var_term (record { sort = Card; number = n })

-- the first falls, or it doesn't rise and the second falls
two_places : decreases (K 0 ∷ K 1 ∷ []) (K 0 ∷ K 2 ∷ []) ≡ (Lt (K 0) (K 0) ∷ []) ∷ (Le (K 0) (K 0) ∷ Lt (K 2) (K 1) ∷ []) ∷ []
two_places = refl

-- of tuples of different length the common places are compared
first_alone : decreases (K 0 ∷ []) (K 1 ∷ K 2 ∷ []) ≡ (Lt (K 1) (K 0) ∷ []) ∷ []
first_alone = refl

-- an empty measure can't fall
nothing_falls : decreases [] [] ≡ []
nothing_falls = refl
