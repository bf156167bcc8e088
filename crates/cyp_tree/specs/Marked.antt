-- The marks of an arena as functions of the numbers.
use Rattle.std.specs.Prelude.{◌≡◌, ℕ, ◌<◌, List, length, slice_set, slice_index_or, Bool, false, Option, Some, None}
use Rattle.std.specs.List.{slice_get}
use Rattle.cyp_tree.specs.declared.mark.Mark.{Mark}
use Rattle.cyp_tree.specs.declared.mark.Mark.TheVariants.{Undecided, Failed}
use Rattle.cyp_tree.specs.declared.places.Place.{Place}
use Rattle.cyp_tree.specs.declared.places.Way.{Way}
use Rattle.cyp_tree.specs.declared.marks.Marks.{Marks}
use Rattle.cyp_tree.specs.Told.{way_sum, IsTold, IsToldBut, AreCounted}

-- the status of the node of this number, and undecided where there is none
abbrev pub status_at : Marks → ℕ → Mark
status_at m k = slice_index_or m.statuses.items k Undecided

-- whether the node of this number is under no decided node and no failed alternative
abbrev pub reached_at : Marks → ℕ → Bool
reached_at m k = slice_index_or m.reached.items k false

-- how many alternatives of the node have not failed
abbrev pub unfailed_at : Marks → ℕ → ℕ
unfailed_at m k = slice_index_or m.unfailed.items k 0

-- how many premises of the alternative are not solved
abbrev pub unsolved_at : Marks → ℕ → ℕ
unsolved_at m w = slice_index_or m.unsolved.items w 0

-- there are marks of so many places and so many ways
pub record AreSized (m : Marks) (places ways : ℕ) : Type 0 where
  pub statuses : length m.statuses.items ≡ places
  pub reached : length m.reached.items ≡ places
  pub unfailed : length m.unfailed.items ≡ places
  pub unsolved : length m.unsolved.items ≡ ways

-- the way of a number hasn't failed, and its node is open
pub record IsOpenAbove {R N : Type 0} (s : ℕ → Mark) (ps : List (Place N)) (ws : List (Way R)) (at : ℕ) : Type 0 where
  pub unfailed : (p : Place N) (y : Way R) → slice_get ps at ≡ Some p → 0 < at → slice_get ws p.above ≡ Some y → way_sum s y ≡ Failed → ⊥
  pub node : (p : Place N) (y : Way R) → slice_get ps at ≡ Some p → 0 < at → slice_get ws p.above ≡ Some y → s y.above ≡ Undecided

-- all statuses are told, or those but of this number, which is to have this status
abbrev pub ToldBut : {R N : Type 0} → Mark → (ℕ → Mark) → List (Place N) → List (Way R) → Option ℕ → Type 0
ToldBut to s ps ws None = IsTold s ps ws
ToldBut to s ps ws (Some k) = IsToldBut k to s ps ws

-- the node of a number's way, or nothing
abbrev pub IsAbove : {R N : Type 0} → List (Place N) → List (Way R) → ℕ → Option ℕ → Type 0
IsAbove {R} {N} ps ws at None = Unit {0}
IsAbove {R} {N} ps ws at (Some k) = (p : Place N) × (y : Way R) × (0 < at) × (slice_get ps at ≡ Some p) × (slice_get ws p.above ≡ Some y) × (k ≡ y.above)

-- a node is noted as decided: its status changes, and the counters above it, and the node of its way may be the next
pub record DecidesNode {R N : Type 0} (to : Mark) (at : ℕ) (ps : List (Place N)) (ws : List (Way R)) (old new : Marks) (next : Option ℕ) : Type 0 where
  pub statuses : new.statuses.items ≡ slice_set old.statuses.items at to
  pub reached : new.reached ≡ old.reached
  pub sized : AreSized new (length ps) (length ws)
  pub counted : AreCounted (status_at new) (unsolved_at new) (unfailed_at new) ps ws
  pub told : ToldBut to (status_at new) ps ws next
  pub above : IsAbove ps ws at next
