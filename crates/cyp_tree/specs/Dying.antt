-- Nodes that are no longer reached, as they are found.
use Rattle.std.specs.Prelude.{◌≡◌, ℕ, ◌+◌, ◌<◌, ◌≤◌, ◌⊎◌, List, [], ◌∷◌, length, Bool, true, false, Some, Vec, vec_capacity}
use Rattle.std.specs.List.{slice_get}
use Rattle.std.specs.declared.alloc.Global.{Global}
use Rattle.cyp_tree.specs.declared.mark.Mark.{Mark}
use Rattle.cyp_tree.specs.declared.mark.Mark.TheVariants.{Undecided, Failed}
use Rattle.cyp_tree.specs.declared.places.Run.{Run}
use Rattle.cyp_tree.specs.declared.places.Place.{Place}
use Rattle.cyp_tree.specs.declared.places.Way.{Way}
use Rattle.cyp_tree.specs.declared.marks.Marks.{Marks}
use Rattle.cyp_tree.specs.Numbers.{one_where}
use Rattle.cyp_tree.specs.Standing.{IsIn}
use Rattle.cyp_tree.specs.Told.{way_sum, IsTold, AreCounted, AreReached}
use Rattle.cyp_tree.specs.Marked.{reached_at, status_at, unsolved_at, unfailed_at, AreSized}

-- how often a number is listed
abbrev pub times : ℕ → List ℕ → ℕ
times k [] = 0
times k (x ∷ xs) = one_where x k + times k xs

-- 1 for true
abbrev pub bit : Bool → ℕ
bit true = 1
bit false = 0

-- how many are true
abbrev pub trues : List Bool → ℕ
trues [] = 0
trues (b ∷ bs) = bit b + trues bs

-- the numbers that meet a condition were taken from those that are reached, and listed behind the others
pub record Retired (of : ℕ → Type 0) (m m' : Marks) (gone gone' : Vec ℕ Global) : Type 0 where
  pub taken : (j : ℕ) → of j → reached_at m' j ≡ false
  pub spared : (j : ℕ) → reached_at m j ≡ true → (reached_at m' j ≡ true) ⊎ of j
  pub fewer : (j : ℕ) → reached_at m' j ≡ true → reached_at m j ≡ true
  pub bits : (k : ℕ) → bit (reached_at m' k) + times k gone'.items ≡ bit (reached_at m k) + times k gone.items
  pub behind : (i x : ℕ) → slice_get gone.items i ≡ Some x → slice_get gone'.items i ≡ Some x
  pub count : length gone'.items + trues m'.reached.items ≡ length gone.items + trues m.reached.items
  pub capacity : vec_capacity gone ≤ vec_capacity gone'
  pub long : length m'.reached.items ≡ length m.reached.items
  pub statuses : m'.statuses ≡ m.statuses
  pub unfailed : m'.unfailed ≡ m.unfailed
  pub unsolved : m'.unsolved ≡ m.unsolved

-- a premise of a way of this run
abbrev pub IsPremise : {R : Type 0} → List (Way R) → Run → ℕ → Type 0
IsPremise {R} ws r j = (w : ℕ) × (y : Way R) × IsIn w r × (slice_get ws w ≡ Some y) × IsIn j y.parts

-- the premises of all ways are numbers below this one
abbrev pub AreWithin : {R : Type 0} → List (Way R) → ℕ → Type 0
AreWithin {R} ws n = (w : ℕ) (y : Way R) → slice_get ws w ≡ Some y → y.parts.first + y.parts.count ≤ n

-- nodes were taken from those that are reached, and listed behind the others, each once
pub record Lists (m m' : Marks) (gone gone' : Vec ℕ Global) : Type 0 where
  pub bits : (k : ℕ) → bit (reached_at m' k) + times k gone'.items ≡ bit (reached_at m k) + times k gone.items
  pub count : length gone'.items + trues m'.reached.items ≡ length gone.items + trues m.reached.items
  pub capacity : vec_capacity gone ≤ vec_capacity gone'
  pub long : length m'.reached.items ≡ length m.reached.items

-- a premise of a way of this node
abbrev pub IsUnder : {R N : Type 0} → List (Place N) → List (Way R) → ℕ → ℕ → Type 0
IsUnder {R} {N} ps ws at j = (p : Place N) × (r : Run) × (slice_get ps at ≡ Some p) × (p.ways ≡ Some r) × IsPremise ws r j

-- a premise of the way of this node, where it has failed
abbrev pub IsBeside : {R N : Type 0} → List (Place N) → List (Way R) → Mark → ℕ → ℕ → Type 0
IsBeside {R} {N} ps ws to at j =
    (to ≡ Failed) × (0 < at) × ((p : Place N) × (y : Way R) × (slice_get ps at ≡ Some p) × (slice_get ws p.above ≡ Some y) × IsIn j y.parts)

-- numbers up to this top are listed: those below it are decided and have this status, and nothing else has changed
pub record Climbing {R N : Type 0} (to : Mark) (s0 : ℕ → Mark) (r0 : ℕ → Bool) (s : ℕ → Mark) (r : ℕ → Bool) (gone : List ℕ) (top : ℕ) (ps : List (Place N)) (ws : List (Way R)) : Type 0 where
  pub below : top < length ps
  pub was : r0 top ≡ true
  pub listed : 1 ≤ times top gone
  pub least : (j : ℕ) → 1 ≤ times j gone → top ≤ j
  pub fresh : (j : ℕ) → j ≤ top → s j ≡ s0 j
  pub off : (j : ℕ) → times j gone ≡ 0 → s j ≡ s0 j
  pub on : (j : ℕ) → 1 ≤ times j gone → (j ≡ top → ⊥) → s j ≡ to
  pub up : (j : ℕ) (p : Place N) (y : Way R) → 1 ≤ times j gone → (j ≡ top → ⊥) → slice_get ps j ≡ Some p → slice_get ws p.above ≡ Some y → 1 ≤ times y.above gone
  pub bits : (k : ℕ) → bit (r k) + times k gone ≡ bit (r0 k)

-- the same once the top is decided, too
pub record Climbed {R N : Type 0} (to : Mark) (s0 : ℕ → Mark) (r0 : ℕ → Bool) (s : ℕ → Mark) (r : ℕ → Bool) (gone : List ℕ) (top : ℕ) (ps : List (Place N)) (ws : List (Way R)) : Type 0 where
  pub below : top < length ps
  pub listed : 1 ≤ times top gone
  pub off : (j : ℕ) → times j gone ≡ 0 → s j ≡ s0 j
  pub on : (j : ℕ) → 1 ≤ times j gone → s j ≡ to
  pub up : (j : ℕ) (p : Place N) (y : Way R) → 1 ≤ times j gone → (j ≡ top → ⊥) → slice_get ps j ≡ Some p → slice_get ws p.above ≡ Some y → 1 ≤ times y.above gone
  pub bits : (k : ℕ) → bit (r k) + times k gone ≡ bit (r0 k)

-- so many listed numbers were looked at: what is under them is no longer reached
pub record Sweeping {R N : Type 0} (s : ℕ → Mark) (r : ℕ → Bool) (gone : List ℕ) (i : ℕ) (ps : List (Place N)) (ws : List (Way R)) : Type 0 where
  pub root : s 0 ≡ Undecided → r 0 ≡ true
  pub undecided : (j : ℕ) → r j ≡ true → s j ≡ Undecided
  pub down : (j : ℕ) (p : Place N) (y : Way R) → slice_get ps j ≡ Some p → 0 < j → slice_get ws p.above ≡ Some y
      → s j ≡ Undecided → (way_sum s y ≡ Failed → ⊥) → r y.above ≡ true → r j ≡ true
  pub up : (j : ℕ) (p : Place N) (y : Way R) → slice_get ps j ≡ Some p → 0 < j → slice_get ws p.above ≡ Some y → r j ≡ true
      → ((way_sum s y ≡ Failed → ⊥) × (r y.above ≡ true)) ⊎ ((n : ℕ) × (i ≤ n) × (slice_get gone n ≡ Some y.above))
  pub unreached : (k : ℕ) → 1 ≤ times k gone → r k ≡ false
  pub within : (k : ℕ) → 1 ≤ times k gone → k < length ps

-- what is decided has been noted, and what that changes above
pub record IsNoted {R N : Type 0} (to : Mark) (top : ℕ) (ps : List (Place N)) (ws : List (Way R)) (m m' : Marks) (gone gone' : Vec ℕ Global) : Type 0 where
  pub climbed : Climbed to (status_at m) (reached_at m) (status_at m') (reached_at m') gone'.items top ps ws
  pub lists : Lists m m' gone gone'
  pub sized : AreSized m' (length ps) (length ws)
  pub told : IsTold (status_at m') ps ws
  pub counted : AreCounted (status_at m') (unsolved_at m') (unfailed_at m') ps ws

-- all listed numbers were looked at
pub record IsSwept {R N : Type 0} (ps : List (Place N)) (ws : List (Way R)) (m m' : Marks) (gone gone' : Vec ℕ Global) : Type 0 where
  pub sweeping : Sweeping (status_at m') (reached_at m') gone'.items (length gone'.items) ps ws
  pub lists : Lists m m' gone gone'
  pub statuses : m'.statuses ≡ m.statuses
  pub unfailed : m'.unfailed ≡ m.unfailed
  pub unsolved : m'.unsolved ≡ m.unsolved

-- all marks are those of the statuses again, and what is no longer reached is listed once
pub record IsBuried {R N : Type 0} (ps : List (Place N)) (ws : List (Way R)) (m m' : Marks) (gone : List ℕ) : Type 0 where
  pub told : IsTold (status_at m') ps ws
  pub counted : AreCounted (status_at m') (unsolved_at m') (unfailed_at m') ps ws
  pub sized : AreSized m' (length ps) (length ws)
  pub reached : AreReached (status_at m') (reached_at m') ps ws
  pub bits : (k : ℕ) → bit (reached_at m' k) + times k gone ≡ bit (reached_at m k)
  pub count : length gone + trues m'.reached.items ≡ trues m.reached.items
