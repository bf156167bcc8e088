-- The statuses of numbers, the counters that follow from them, and which numbers are reached.
use Rattle.std.specs.Prelude.{◌≡◌, ℕ, zero, suc, ◌+◌, ◌<◌, List, [], ◌∷◌, Bool, true, Option, Some, None}
use Rattle.std.specs.List.{slice_get}
use Rattle.cyp_tree.specs.declared.mark.Mark.{Mark}
use Rattle.cyp_tree.specs.declared.mark.Mark.TheVariants.{Undecided, Solved, Failed}
use Rattle.cyp_tree.specs.declared.places.Run.{Run}
use Rattle.cyp_tree.specs.declared.places.Place.{Place}
use Rattle.cyp_tree.specs.declared.places.Way.{Way}
use Rattle.cyp_tree.specs.Statuses.{either, both}
use Rattle.cyp_tree.specs.Standing.{run_of}

-- the status of an alternative with so many premises from this number on
abbrev pub parts_sum : (ℕ → Mark) → ℕ → ℕ → Mark
parts_sum s j zero = Solved
parts_sum s j (suc c) = both (s j) (parts_sum s (suc j) c)

-- the status of a way
abbrev pub way_sum : {R : Type 0} → (ℕ → Mark) → Way R → Mark
way_sum s y = parts_sum s y.parts.first y.parts.count

-- the status of a node with these ways
abbrev pub ways_sum : {R : Type 0} → (ℕ → Mark) → List (Way R) → Mark
ways_sum s [] = Failed
ways_sum s (y ∷ ys) = either (way_sum s y) (ways_sum s ys)

-- the status of a leaf, or of a grown node by its run of ways
abbrev pub node_sum : {R : Type 0} → (ℕ → Mark) → List (Way R) → Option Run → Mark
node_sum s ws None = Undecided
node_sum s ws (Some r) = ways_sum s (run_of ws r)

-- 1, or 0 for what is solved
abbrev pub one_unsolved : Mark → ℕ
one_unsolved Undecided = 1
one_unsolved Solved = 0
one_unsolved Failed = 1

-- 1, or 0 for what has failed
abbrev pub one_unfailed : Mark → ℕ
one_unfailed Undecided = 1
one_unfailed Solved = 1
one_unfailed Failed = 0

-- how many of so many premises from this number on aren't solved
abbrev pub unsolved_from : (ℕ → Mark) → ℕ → ℕ → ℕ
unsolved_from s j zero = 0
unsolved_from s j (suc c) = one_unsolved (s j) + unsolved_from s (suc j) c

-- how many of these ways haven't failed
abbrev pub unfailed_in : {R : Type 0} → (ℕ → Mark) → List (Way R) → ℕ
unfailed_in s [] = 0
unfailed_in s (y ∷ ys) = one_unfailed (way_sum s y) + unfailed_in s ys

-- the same of a leaf, which has none, or of a grown node
abbrev pub unfailed_of : {R : Type 0} → (ℕ → Mark) → List (Way R) → Option Run → ℕ
unfailed_of s ws None = 0
unfailed_of s ws (Some r) = unfailed_in s (run_of ws r)

-- each place but perhaps one has the status that its ways give it
abbrev pub IsTold : {R N : Type 0} → (ℕ → Mark) → List (Place N) → List (Way R) → Type 0
IsTold {R} {N} s ps ws = (k : ℕ) (p : Place N) → slice_get ps k ≡ Some p → s k ≡ node_sum s ws p.ways

-- the same but for one place, whose ways give it this status
abbrev pub IsToldBut : {R N : Type 0} → ℕ → Mark → (ℕ → Mark) → List (Place N) → List (Way R) → Type 0
IsToldBut {R} {N} at to s ps ws =
    ((k : ℕ) (p : Place N) → slice_get ps k ≡ Some p → (k ≡ at → ⊥) → s k ≡ node_sum s ws p.ways) × ((p : Place N) → slice_get ps at ≡ Some p → node_sum s ws p.ways ≡ to)

-- the counters are those of the statuses: of each way its premises that aren't solved, of each place its ways that haven't failed
pub record AreCounted {R N : Type 0} (s : ℕ → Mark) (unsolved unfailed : ℕ → ℕ) (ps : List (Place N)) (ws : List (Way R)) : Type 0 where
  pub ways : (w : ℕ) (y : Way R) → slice_get ws w ≡ Some y → unsolved w ≡ unsolved_from s y.parts.first y.parts.count
  pub places : (k : ℕ) (p : Place N) → slice_get ps k ≡ Some p → unfailed k ≡ unfailed_of s ws p.ways

-- the reached numbers are those of open places under reached ones, by ways that haven't failed
pub record AreReached {R N : Type 0} (s : ℕ → Mark) (reached : ℕ → Bool) (ps : List (Place N)) (ws : List (Way R)) : Type 0 where
  pub root : s 0 ≡ Undecided → reached 0 ≡ true
  pub undecided : (j : ℕ) → reached j ≡ true → s j ≡ Undecided
  pub down : (j : ℕ) (p : Place N) (y : Way R) → slice_get ps j ≡ Some p → 0 < j → slice_get ws p.above ≡ Some y
      → s j ≡ Undecided → (way_sum s y ≡ Failed → ⊥) → reached y.above ≡ true → reached j ≡ true
  pub unfailed : (j : ℕ) (p : Place N) (y : Way R) → slice_get ps j ≡ Some p → 0 < j → slice_get ws p.above ≡ Some y → reached j ≡ true → way_sum s y ≡ Failed → ⊥
  pub above : (j : ℕ) (p : Place N) (y : Way R) → slice_get ps j ≡ Some p → 0 < j → slice_get ws p.above ≡ Some y → reached j ≡ true → reached y.above ≡ true
