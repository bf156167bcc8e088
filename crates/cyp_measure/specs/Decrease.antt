-- When the measure of a call falls.
use Rattle.std.specs.Prelude.{[], List, map, suc, zero, ◌∷◌, ℕ}
use Rattle.cyp_term.specs.declared.lit.Lit.{Lit}
use Rattle.cyp_term.specs.declared.lit.Lit.TheVariants.{Le, Lt}
use Rattle.cyp_term.specs.declared.term.Term.{Term}

-- entry k: the later tuple is not above the earlier before place k, and below it there
abbrev pub decreases : List Term → List Term → List (List Lit)
decreases (o ∷ os) (n ∷ ns) = (Lt n o ∷ []) ∷ map (λ (ls : List Lit). Le n o ∷ ls) (decreases os ns)
decreases _ _ = []

-- the entry at this place
abbrev pub falls_at : ℕ → List Term → List Term → List Lit
falls_at zero (o ∷ os) (n ∷ ns) = Lt n o ∷ []
falls_at (suc k) (o ∷ os) (n ∷ ns) = Le n o ∷ falls_at k os ns
falls_at k _ _ = []
