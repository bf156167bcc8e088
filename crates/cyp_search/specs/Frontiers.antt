-- The entries that a search keeps for the live leaves of its tree.
use Rattle.std.specs.Prelude.{◌≡◌, ℕ, ◌<◌, List}
use Rattle.std.specs.List.{Contains}
use Rattle.cyp_space.specs.Alts.{AltOf}
use Rattle.cyp_tree.specs.Trees.{Tree}
use Rattle.cyp_tree.specs.Sizes.{size}
use Rattle.cyp_tree.specs.Growing.{graft, new_alts}
use Rattle.cyp_tree.specs.Live.{Waiting, live_leaves}
use Rattle.cyp_tree.specs.Numbers.{IsNumbered}
use Rattle.cyp_queue.specs.declared.entry.Entry.{Entry}
use Rattle.cyp_queue.specs.Entries.{AreInOrder}

-- the entry of a waiting leaf: its priority and its number
abbrev pub entry_of : {N : Type 0} → Waiting N → Entry
entry_of w = record { priority = w.priority; leaf = w.number }

-- entries in order for the live leaves with numbers below this one, each with the priority of its leaf; others are those of leaves that aren't live
pub record IsFrontier {R N : Type 0} (weight : N → ℕ) (t : Tree R N) (first : ℕ) (es : List Entry) : Type 0 where
  pub numbered : IsNumbered t
  pub ordered : AreInOrder es
  pub below : (e : Entry) → Contains es e → e.leaf < first
  pub all : (w : Waiting N) → Contains (live_leaves weight 0 t) w → w.number < first → Contains es (entry_of w)
  pub right : (w : Waiting N) (e : Entry) → Contains (live_leaves weight 0 t) w → Contains es e → e.leaf ≡ w.number → e.priority ≡ w.priority

-- whatever is put at this leaf, the entries are right for the leaves that were there before
abbrev pub IsReady : {R N : Type 0} → (N → ℕ) → Tree R N → ℕ → List Entry → Type 0
IsReady {R} {N} weight t leaf es = (moves : List (AltOf R N)) → IsFrontier weight (graft leaf (new_alts (size t) moves) t) (size t) es
