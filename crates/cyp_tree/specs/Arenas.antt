-- What an arena keeps, and what a graft does to it.
use Rattle.std.specs.Prelude.{◌≡◌, ℕ, suc, ◌+◌, ◌*◌, ◌<◌, ◌≤◌, ◌⊎◌, List, [], ◌∷◌, ◌++◌, length, true, false, Option, Some, None, Vec, vec_capacity}
use Rattle.std.specs.List.{slice_get}
use Rattle.std.specs.declared.alloc.Global.{Global}
use Rattle.cyp_space.specs.Alts.{AltOf, premises_in}
use Rattle.cyp_tree.specs.declared.mark.Mark.{Mark}
use Rattle.cyp_tree.specs.declared.mark.Mark.TheVariants.{Undecided}
use Rattle.cyp_tree.specs.declared.places.Run.{Run}
use Rattle.cyp_tree.specs.declared.places.Place.{Place}
use Rattle.cyp_tree.specs.declared.places.Way.{Way}
use Rattle.cyp_tree.specs.declared.marks.Marks.{Marks}
use Rattle.cyp_tree.specs.Standing.{IsLinked}
use Rattle.cyp_tree.specs.Told.{IsTold, IsToldBut, AreCounted, AreReached}
use Rattle.cyp_tree.specs.Marked.{status_at, reached_at, unsolved_at, unfailed_at, AreSized}
use Rattle.cyp_tree.specs.Enlarged.{grown_places, grown_ways, new_ways, new_places, AreCheap}
use Rattle.cyp_tree.specs.Dying.{times, trues}

-- costs and lengths of paths are those of the ways on them
pub record ArePaths {N R : Type 0} (ps : List (Place N)) (ws : List (Way R)) : Type 0 where
  pub root : (p : Place N) → slice_get ps 0 ≡ Some p → (p.cost ≡ 0) × (p.level ≡ 0)
  pub step : (j : ℕ) (p : Place N) (y : Way R) (q : Place N) → slice_get ps j ≡ Some p → 0 < j → slice_get ws p.above ≡ Some y → slice_get ps y.above ≡ Some q
      → (p.cost ≡ q.cost + y.cost) × (p.level ≡ suc q.level)
  pub small : (j : ℕ) (p : Place N) → slice_get ps j ≡ Some p → (p.level ≤ j) × (p.cost ≤ 255 * p.level)

-- 1 for a place that is grown, and 0 for a leaf
abbrev pub one_grown : Option Run → ℕ
one_grown None = 0
one_grown (Some r) = 1

-- how many of the places are grown
abbrev pub grown_in : {N : Type 0} → List (Place N) → ℕ
grown_in [] = 0
grown_in (p ∷ ps) = one_grown p.ways + grown_in ps

-- places and ways are linked, and the marks are those of the tree that they are
pub record IsArena {N R : Type 0} (ps : List (Place N)) (ws : List (Way R)) (m : Marks) : Type 0 where
  pub linked : IsLinked ps ws
  pub paths : ArePaths ps ws
  pub sized : AreSized m (length ps) (length ws)
  pub told : IsTold (status_at m) ps ws
  pub counted : AreCounted (status_at m) (unsolved_at m) (unfailed_at m) ps ws
  pub reached : AreReached (status_at m) (reached_at m) ps ws
  pub few : length ps ≤ 1000000
  pub few_ways : length ws ≤ 48 * grown_in ps

-- the place of this number is a leaf
abbrev pub IsLeafPlace : {N : Type 0} → List (Place N) → ℕ → Type 0
IsLeafPlace {N} ps k = (p : Place N) × (slice_get ps k ≡ Some p) × (p.ways ≡ None)

-- the listed numbers are those below this one that are listed there and are leaves, none more often than there
pub record AreLeavesOf {N : Type 0} (first : ℕ) (ps : List (Place N)) (gone killed : List ℕ) : Type 0 where
  pub from : (k : ℕ) → 1 ≤ times k killed → (1 ≤ times k gone) × (k < first) × IsLeafPlace ps k
  pub all : (k : ℕ) → 1 ≤ times k gone → k < first → IsLeafPlace ps k → 1 ≤ times k killed
  pub once : (k : ℕ) → times k killed ≤ times k gone

-- a number is listed behind the others if it is below this one and that of a leaf, and else nothing changes
abbrev pub ListsLeaf : {N : Type 0} → ℕ → List (Place N) → ℕ → List ℕ → List ℕ → Type 0
ListsLeaf first ps at old new =
    ((at < first) × IsLeafPlace ps at × (new ≡ old ++ at ∷ [])) ⊎ (((at < first → IsLeafPlace ps at → ⊥)) × (new ≡ old))

-- new ways and places of moves, and two empty lists with room for so many numbers
pub record IsMade {R N : Type 0} (leaf first way cost level room : ℕ) (as' : List (AltOf R N)) (ws : List (Way R)) (ps : List (Place N)) (gone killed : Vec ℕ Global) : Type 0 where
  pub ways : ws ≡ new_ways leaf first as'
  pub places : ps ≡ new_places way cost level as'
  pub cheap : AreCheap as' (length as')
  pub gone_empty : gone.items ≡ []
  pub gone_room : room ≤ vec_capacity gone
  pub killed_empty : killed.items ≡ []
  pub killed_room : room ≤ vec_capacity killed

-- the leaf has the moves, the arena is one, and the listed numbers, each once, are those of leaves of before that were reached and aren't
pub record HasGrafted {R N : Type 0} (leaf : ℕ) (as' : List (AltOf R N)) (ps : List (Place N)) (ws : List (Way R)) (m : Marks) (ps' : List (Place N)) (ws' : List (Way R)) (m' : Marks) (killed : List ℕ) : Type 0 where
  pub places : (p : Place N) → slice_get ps leaf ≡ Some p → ps' ≡ grown_places leaf p (length ws) as' ps
  pub ways : ws' ≡ grown_ways leaf (length ps) as' ws
  pub arena : IsArena ps' ws' m'
  pub from : (k : ℕ) → 1 ≤ times k killed → (reached_at m k ≡ true) × (reached_at m' k ≡ false) × IsLeafPlace ps' k
  pub all : (k : ℕ) → reached_at m k ≡ true → reached_at m' k ≡ false → IsLeafPlace ps' k → 1 ≤ times k killed
  pub once : (k : ℕ) → times k killed ≤ 1

-- what was made is for this leaf of these lists
abbrev pub IsMadeFor : {R N : Type 0} → List (Place N) → List (Way R) → ℕ → List (AltOf R N) → List (Way R) → List (Place N) → Vec ℕ Global → Vec ℕ Global → Type 0
IsMadeFor {R} {N} ps ws leaf as' new_ws new_ps gone killed =
    (p : Place N) → slice_get ps leaf ≡ Some p → IsMade leaf (length ps) (length ws) p.cost p.level (length ps + premises_in as') as' new_ws new_ps gone killed

-- what the marks of an enlarged arena are before the leaf is settled
pub record IsUnsettled {R N : Type 0} (leaf : ℕ) (status : Mark) (ps : List (Place N)) (ws : List (Way R)) (m : Marks) : Type 0 where
  pub linked : IsLinked ps ws
  pub sized : AreSized m (length ps) (length ws)
  pub few : length ps ≤ 1000000
  pub few_ways : length ws ≤ 48 * grown_in ps
  pub told : IsToldBut leaf status (status_at m) ps ws
  pub undecided : status ≡ Undecided → IsTold (status_at m) ps ws
  pub counted : AreCounted (status_at m) (unsolved_at m) (unfailed_at m) ps ws
  pub reached : AreReached (status_at m) (reached_at m) ps ws
  pub leaf_reached : reached_at m leaf ≡ true
  pub trues : trues m.reached.items ≤ length ps
  pub paths : ArePaths ps ws

-- a root that is a leaf
pub record IsRootArena {R N : Type 0} (node root : N) (ps : List (Place N)) (ws : List (Way R)) (m : Marks) : Type 0 where
  pub root_is : root ≡ node
  pub places : ps ≡ record { node = node; above = 0; cost = 0; level = 0; ways = None } ∷ []
  pub ways : ws ≡ []
  pub statuses : m.statuses.items ≡ Undecided ∷ []
  pub reached : m.reached.items ≡ true ∷ []
  pub unfailed : m.unfailed.items ≡ 0 ∷ []
  pub unsolved : m.unsolved.items ≡ []
