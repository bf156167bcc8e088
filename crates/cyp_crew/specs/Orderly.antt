-- What is true of the outstanding claims of each journal.
use Rattle.std.specs.Prelude.{ℕ, ◌^◌, ◌<◌, ◌≤◌, List, [], ◌∷◌}
use Rattle.cyp_crew.specs.Crews.{Outstanding, Crew}
use Rattle.cyp_crew.specs.Machine.{claims_of}

-- the serials of the claims rise, all above one number and none above another, and each worker is one of 32
abbrev pub InOrder : {N : Type 0} → ℕ → ℕ → List (Outstanding N) → Type 0
InOrder low high [] = Unit {0}
InOrder low high (o ∷ os) = (low < o.serial) × (o.serial ≤ high) × (o.worker < 32) × InOrder o.serial high os

-- the claims are in order, their serials are of claims that were made, and no worker has more than four
pub record IsOrderly {N : Type 0} (c : Crew N) : Type 0 where
  pub in_order : InOrder 0 c.claims c.outstanding
  pub few : (w : ℕ) → claims_of c w ≤ 4
  pub most : c.claims ≤ 2 ^ 62
