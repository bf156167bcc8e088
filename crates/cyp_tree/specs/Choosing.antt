-- How the derivation of a solved root is chosen and put together, way by way.
use Rattle.std.specs.Prelude.{◌≡◌, ℕ, ◌-◌, ◌<◌, ◌≤◌, List, [], ◌∷◌, ◌++◌, map, take, drop, length, Option, Some}
use Rattle.std.specs.List.{slice_get, All}
use Rattle.cyp_space.specs.declared.solved.Solved.{Solved}
use Rattle.cyp_tree.specs.declared.mark.Mark.{Mark}
use Rattle.cyp_tree.specs.declared.mark.Mark.TheVariants.{Solved as is_solved}
use Rattle.cyp_tree.specs.declared.places.Run.{Run}
use Rattle.cyp_tree.specs.declared.places.Place.{Place}
use Rattle.cyp_tree.specs.declared.places.Way.{Way}
use Rattle.cyp_tree.specs.Derivations.{Derivation, Derived, chosen_derivation, derivations_of, plain_derivation, plain_derivations}
use Rattle.cyp_tree.specs.Standing.{tree_at, IsIn}

-- a way of a run without unsolved premises, and no way before it is one
pub record IsFirstSolved (unsolved : ℕ → ℕ) (r : Run) (w : ℕ) : Type 0 where
  pub inside : IsIn w r
  pub solved : unsolved w ≡ 0
  pub first : (v : ℕ) → r.first ≤ v → v < w → 0 < unsolved v

-- the way that a place of this number takes, which is the first solved one
pub record IsTaken {N : Type 0} (unsolved : ℕ → ℕ) (ps : List (Place N)) (at w : ℕ) : Type 0 where
  pub place : Place N
  pub run : Run
  pub found : slice_get ps at ≡ Some place
  pub ways : place.ways ≡ Some run
  pub first : IsFirstSolved unsolved run w

-- the numbers are below this one, and those of solved places
abbrev pub AreSolved : (ℕ → Mark) → ℕ → List ℕ → Type 0
AreSolved s n ks = All (λ k. (k < n) × (s k ≡ is_solved)) ks

-- the derivation of the tree of a number, if there is one
abbrev pub derived_at : {R N : Type 0} → N → List (Place N) → List (Way R) → ℕ → Option (Derivation R N)
derived_at root ps ws k = chosen_derivation (tree_at (length ps) root ps ws k)

-- each way makes of the last derivations, one for each of its premises, that of its node; after all ways there is this one alone
abbrev pub Rebuilds : {R N : Type 0} → List (Place N) → List (Way R) → Option (Derivation R N) → List ℕ → List (Option (Derivation R N)) → Type 0
Rebuilds ps ws whole [] made = made ≡ whole ∷ []
Rebuilds {R} {N} ps ws whole (w ∷ more) made =
    (y : Way R) × (p : Place N) × (rest : List (Option (Derivation R N))) × (parts : List (Derivation R N)) × (slice_get ws w ≡ Some y) × (slice_get ps y.above ≡ Some p)
    × (length parts ≡ y.parts.count) × (made ≡ rest ++ map (λ d. Some d) parts) × Rebuilds ps ws whole more (rest ++ Some (Derived p.node y.rule (derivations_of parts)) ∷ [])

-- derivations of the program as such, all of which are there
abbrev pub made_of : {R N : Type 0} → List (Solved R N) → List (Option (Derivation R N))
made_of ss = map (λ s. Some (plain_derivation s)) ss

-- of the last derivations, one for each premise of a way, that of its node was made
pub record Joins {R N : Type 0} (ps : List (Place N)) (ws : List (Way R)) (w : ℕ) (old new : List (Solved R N)) : Type 0 where
  pub y : Way R
  pub p : Place N
  pub way : slice_get ws w ≡ Some y
  pub place : slice_get ps y.above ≡ Some p
  pub joined : made_of new
      ≡ take (length old - y.parts.count) (made_of old) ++ Some (Derived p.node y.rule (plain_derivations (drop (length old - y.parts.count) old))) ∷ []
