-- What an arena's lists become when moves are put at a leaf.
use Rattle.std.specs.Prelude.{vec_len, vec_capacity, ◌≡◌, ℕ, suc, ◌+◌, ◌<◌, ◌≤◌, true, List, [], ◌∷◌, ◌++◌, length, slice_set, Some, None}
use Rattle.std.specs.List.{slice_get}
use Rattle.cyp_space.specs.Alts.{AltOf, premises_in}
use Rattle.cyp_tree.specs.declared.mark.Mark.{Mark}
use Rattle.cyp_tree.specs.declared.mark.Mark.TheVariants.{Undecided, Solved, Failed}
use Rattle.cyp_tree.specs.declared.marks.Marks.{Marks}
use Rattle.cyp_tree.specs.Statuses.{either}
use Rattle.cyp_tree.specs.Marked.{status_at, reached_at, unfailed_at, unsolved_at, AreSized}
use Rattle.cyp_tree.specs.declared.places.Place.{Place}
use Rattle.cyp_tree.specs.declared.places.Way.{Way}

-- ways from this node, whose premises are numbered from here on
abbrev pub new_ways : {R N : Type 0} → ℕ → ℕ → List (AltOf R N) → List (Way R)
new_ways above k [] = []
new_ways above k (a ∷ as') =
    record { rule = a.rule; cost = a.cost; above = above; parts = record { first = k; count = length a.premises } } ∷ new_ways above (k + length a.premises) as'

-- leaves that are the premises of this way
abbrev pub way_places : {N : Type 0} → ℕ → ℕ → ℕ → List N → List (Place N)
way_places w c l [] = []
way_places w c l (n ∷ ns) = record { node = n; above = w; cost = c; level = l; ways = None } ∷ way_places w c l ns

-- the premises of ways that are numbered from here on, under a node of this cost and level
abbrev pub new_places : {R N : Type 0} → ℕ → ℕ → ℕ → List (AltOf R N) → List (Place N)
new_places w c l [] = []
new_places w c l (a ∷ as') = way_places w (c + a.cost) (suc l) a.premises ++ new_places (suc w) c l as'

-- a leaf with a run of ways
abbrev pub with_ways : {N : Type 0} → Place N → ℕ → ℕ → Place N
with_ways p f c = record p { ways = Some (record { first = f; count = c }) }

-- the moves stand at the leaf: it has a run of new ways, and new leaves are their premises
abbrev pub grown_places : {R N : Type 0} → ℕ → Place N → ℕ → List (AltOf R N) → List (Place N) → List (Place N)
grown_places leaf p m as' ps = slice_set ps leaf (with_ways p m (length as')) ++ new_places m p.cost p.level as'

-- the ways of the moves stand behind the others
abbrev pub grown_ways : {R N : Type 0} → ℕ → ℕ → List (AltOf R N) → List (Way R) → List (Way R)
grown_ways leaf k as' ws = ws ++ new_ways leaf k as'

-- the status of a move with these premises, all leaves
abbrev pub premises_status : {N : Type 0} → List N → Mark
premises_status [] = Solved
premises_status (n ∷ ns) = Undecided

-- the status of a node whose alternatives are these moves, with only leaves below
abbrev pub fresh_status : {R N : Type 0} → List (AltOf R N) → Mark
fresh_status [] = Failed
fresh_status (a ∷ as') = either (premises_status a.premises) (fresh_status as')

-- the marks of new leaves and new ways stand behind the others, and the leaf has so many ways
pub record AreBorn {R N : Type 0} (leaf places ways : ℕ) (as' : List (AltOf R N)) (m n : Marks) : Type 0 where
  pub statuses : (j : ℕ) → status_at n j ≡ status_at m j
  pub reached_old : (j : ℕ) → j < places → reached_at n j ≡ reached_at m j
  pub reached_new : (j : ℕ) → places ≤ j → j < places + premises_in as' → reached_at n j ≡ true
  pub leaf_unfailed : unfailed_at n leaf ≡ length as'
  pub unfailed : (k : ℕ) → (k ≡ leaf → ⊥) → unfailed_at n k ≡ unfailed_at m k
  pub unsolved_old : (w : ℕ) → w < ways → unsolved_at n w ≡ unsolved_at m w
  pub unsolved_new : (i : ℕ) (a : AltOf R N) → slice_get as' i ≡ Some a → unsolved_at n (ways + i) ≡ length a.premises
  pub sized : AreSized n (places + premises_in as') (ways + length as')

-- the same marks, whatever room there is
pub record AreSame (m n : Marks) : Type 0 where
  pub statuses : n.statuses.items ≡ m.statuses.items
  pub reached : n.reached.items ≡ m.reached.items
  pub unfailed : n.unfailed.items ≡ m.unfailed.items
  pub unsolved : n.unsolved.items ≡ m.unsolved.items

-- room for so many more marks
pub record HaveRoom (m : Marks) (places ways : ℕ) : Type 0 where
  pub statuses : vec_len m.statuses + places ≤ vec_capacity m.statuses
  pub reached : vec_len m.reached + places ≤ vec_capacity m.reached
  pub unfailed : vec_len m.unfailed + places ≤ vec_capacity m.unfailed
  pub unsolved : vec_len m.unsolved + ways ≤ vec_capacity m.unsolved

-- so many open leaves stand behind the places
pub record HaveLeaves (m n : Marks) (places count : ℕ) : Type 0 where
  pub statuses : (j : ℕ) → status_at n j ≡ status_at m j
  pub reached_old : (j : ℕ) → j < places → reached_at n j ≡ reached_at m j
  pub reached_new : (j : ℕ) → places ≤ j → j < places + count → reached_at n j ≡ true
  pub unfailed : (k : ℕ) → unfailed_at n k ≡ unfailed_at m k
  pub unsolved : n.unsolved ≡ m.unsolved
  pub long_statuses : length n.statuses.items ≡ length m.statuses.items + count
  pub long_reached : length n.reached.items ≡ length m.reached.items + count
  pub long_unfailed : length n.unfailed.items ≡ length m.unfailed.items + count

-- the counters of new ways stand behind the others
pub record HaveWays {R N : Type 0} (m n : Marks) (ways : ℕ) (as' : List (AltOf R N)) (count : ℕ) : Type 0 where
  pub statuses : n.statuses ≡ m.statuses
  pub reached : n.reached ≡ m.reached
  pub unfailed : n.unfailed ≡ m.unfailed
  pub old : (w : ℕ) → w < ways → unsolved_at n w ≡ unsolved_at m w
  pub new : (i : ℕ) (a : AltOf R N) → i < count → slice_get as' i ≡ Some a → unsolved_at n (ways + i) ≡ length a.premises
  pub long : length n.unsolved.items ≡ ways + count

-- the first ones of the moves cost at most 255
abbrev pub AreCheap : {R N : Type 0} → List (AltOf R N) → ℕ → Type 0
AreCheap {R} {N} as' n = (i : ℕ) (a : AltOf R N) → i < n → slice_get as' i ≡ Some a → a.cost ≤ 255
