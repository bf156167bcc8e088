-- One expansion of a search: what it does to the tree and to the entries of its leaves.
use Rattle.std.specs.Prelude.{◌≡◌, ℕ, ◌<◌, ◌≤◌, Bool, true, false, List}
use Rattle.cyp_space.specs.Alts.{AltOf}
use Rattle.cyp_tree.specs.declared.mark.Mark.TheVariants.{Undecided}
use Rattle.cyp_tree.specs.Trees.{Tree, Moving}
use Rattle.cyp_tree.specs.Statuses.{status}
use Rattle.cyp_tree.specs.Sizes.{size}
use Rattle.cyp_tree.specs.Growing.{graft, new_alts, expand_next}
use Rattle.cyp_queue.specs.declared.entry.Entry.{Entry}
use Rattle.cyp_search.specs.Frontiers.{IsFrontier}

-- the moves are put at the leaf where the nodes fit, and then the entries are right again; else the tree stays
abbrev pub Puts : {R N : Type 0} → (N → ℕ) → ℕ → ℕ → List (AltOf R N) → Tree R N → Tree R N → List Entry → Bool → Type 0
Puts weight limit leaf moves old new es true = (new ≡ graft leaf (new_alts (size old) moves) old) × (size new ≤ limit) × IsFrontier weight new (size new) es
Puts weight limit leaf moves old new es false = (new ≡ old) × (limit < size (graft leaf (new_alts (size old) moves) old))

-- the open tree is expanded where the nodes fit, and then the entries are right again; else it stays
abbrev pub Expands : {R N : Type 0} → Moving R N → ℕ → Tree R N → Tree R N → List Entry → Bool → Type 0
Expands space limit old new es true = (status old ≡ Undecided) × (new ≡ expand_next space old) × (size new ≤ limit) × IsFrontier space.weight new (size new) es
Expands space limit old new es false = (new ≡ old) × (status old ≡ Undecided → limit < size (expand_next space old))
