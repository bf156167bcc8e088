-- The measure at a place of a derivation: the numbers of the companions' tuples, one inside another.
use Rattle.cyp_heap.specs.declared.goal.Goal.{Goal}
use Rattle.cyp_heap.specs.declared.goal.Link.{Link}
use Rattle.cyp_measure.specs.Levels.{levels}
use Rattle.cyp_step.specs.Unfolding.{last_tuple}
use Rattle.cyp_term.specs.Meaning.{Assignment, value}
use Rattle.cyp_term.specs.declared.term.Term.{Term}
use Rattle.std.specs.Prelude.{[], ◌++◌, ◌+◌, ◌-◌, List, drop, length, map, pos, suc, take, ℕ, ℤ, ◌∷◌, ◌<◌, ◌≡◌, ◌≤◌, ◌⊎◌}

-- the integer is a natural number of at most z
abbrev pub IsWithin : ℕ → ℤ → Type 0
IsWithin z x = (k : ℕ) × (x ≡ pos k) × (k ≤ z)

-- the natural number that the integer is, and 0 where it is none
abbrev pub nat_of : ℤ → ℕ
nat_of (pos k) = k
nat_of _ = 0

-- the numbers of the terms
abbrev pub numbers_of : Assignment → List Term → List ℕ
numbers_of s ts = map (λ t. nat_of (value s t)) ts

-- the parts of a list up to each of these places, the first from place k on
abbrev pub cut : ℕ → List ℕ → List ℕ → List (List ℕ)
cut k [] xs = []
cut k (e ∷ es) xs = take (e - k) (drop k xs) ∷ cut e es xs

-- the levels of a tuple whose parts end at these places
abbrev pub levels_of : List ℕ → List ℕ → List ℕ
levels_of ends xs = levels (cut 0 ends xs)

-- how long the companions' tuples are: where the parts of the last one end
abbrev pub ends_of : List Link → List ℕ
ends_of ls = map (λ (l : Link). length l.tuple) ls

-- the measure at a place below these companions: the last tuple holds the others
abbrev pub measure_at : Assignment → List Link → List ℕ
measure_at s ls = levels_of (ends_of ls) (numbers_of s (last_tuple ls))

-- what is known of a companion by those who call it: its goal, its measure in its own variables, and where the measure's parts end
pub record Companion : Type 0 where
  pub goal : Goal
  pub own : List Term
  pub ends : List ℕ

-- the companions, the first of which is behind those whose tuples have these lengths
abbrev pub companions_from : List ℕ → List Link → List Companion
companions_from ends [] = []
companions_from ends (l ∷ ls) =
    record { goal = l.goal; own = l.own; ends = ends ++ length l.tuple ∷ [] } ∷ companions_from (ends ++ length l.tuple ∷ []) ls

abbrev pub companions_of : List Link → List Companion
companions_of ls = companions_from [] ls

-- the measure of a call of the companion
abbrev pub call_measure : Assignment → Companion → List ℕ
call_measure u c = levels_of c.ends (numbers_of u c.own)

-- the first list is lexicographically below the second
abbrev pub LexBelow : List ℕ → List ℕ → Type 0
LexBelow (x ∷ xs) (y ∷ ys) = ((x ≡ y) × LexBelow xs ys) ⊎ (x < y)
LexBelow _ _ = ⊥

-- below, or the same
abbrev pub LexAtMost : List ℕ → List ℕ → Type 0
LexAtMost xs ys = (xs ≡ ys) ⊎ LexBelow xs ys

-- the first list is nowhere above the second before a place where it is below it
abbrev pub Falls : List ℕ → List ℕ → Type 0
Falls (x ∷ xs) (y ∷ ys) = (x < y) ⊎ ((x ≤ y) × Falls xs ys)
Falls _ _ = ⊥

-- the same, with the place among the first so many
abbrev pub FallsWithin : ℕ → List ℕ → List ℕ → Type 0
FallsWithin (suc n) (x ∷ xs) (y ∷ ys) = (x < y) ⊎ ((x ≤ y) × FallsWithin n xs ys)
FallsWithin _ _ _ = ⊥

-- each number is at most z
abbrev pub AllWithin : ℕ → List ℕ → Type 0
AllWithin z [] = Unit {0}
AllWithin z (x ∷ xs) = (x ≤ z) × AllWithin z xs

-- each part but for what is before it has at most 16 numbers, and none is empty beyond the list
abbrev pub AreShort : ℕ → List ℕ → Type 0
AreShort k [] = Unit {0}
AreShort k (e ∷ es) = (k ≤ e) × (e ≤ k + 16) × AreShort e es

-- the last of the places, and k where there is none
abbrev pub last_end : ℕ → List ℕ → ℕ
last_end k [] = k
last_end k (e ∷ es) = last_end e es
