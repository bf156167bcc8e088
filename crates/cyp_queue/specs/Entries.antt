-- The entries of a queue in their order, and those that are taken out of it.
use Rattle.std.specs.Prelude.{◌≡◌, ℕ, ◌==◌, nat_lt, ◌&&◌, ◌||◌, Bool, false, cond, List, [], ◌∷◌, Option, Some, None, ◌⊎◌}
use Rattle.cyp_queue.specs.declared.entry.Entry.{Entry}

-- what contracts see of a queue: its entries in order, and how many more it has room for
pub record Entries : Type 0 where
  pub entries : List Entry
  pub spare : ℕ

-- by priority, and then by leaf
abbrev pub is_before : Entry → Entry → Bool
is_before a b = nat_lt a.priority b.priority || ((a.priority == b.priority) && nat_lt a.leaf b.leaf)

-- the entries with one more, behind those that come before it
abbrev pub put_entry : Entry → List Entry → List Entry
put_entry e [] = e ∷ []
put_entry e (x ∷ xs) = cond (is_before x e) (x ∷ put_entry e xs) (e ∷ x ∷ xs)

-- none of these comes before this one
abbrev pub NoneBefore : Entry → List Entry → Type 0
NoneBefore x [] = Unit {0}
NoneBefore x (y ∷ ys) = (is_before y x ≡ false) × NoneBefore x ys

-- no entry comes before an earlier one
abbrev pub AreInOrder : List Entry → Type 0
AreInOrder [] = Unit {0}
AreInOrder (x ∷ xs) = NoneBefore x xs × AreInOrder xs

-- the first entry of such a leaf is taken out, and those before it are dropped; where there is none, all are dropped
abbrev pub PopsAlive : (ℕ → Type 0) → List Entry → Option Entry → List Entry → Type 0
PopsAlive live [] taken after = (taken ≡ None) × (after ≡ [])
PopsAlive live (e ∷ es) taken after = (live e.leaf × (taken ≡ Some e) × (after ≡ es)) ⊎ ((live e.leaf → ⊥) × PopsAlive live es taken after)
