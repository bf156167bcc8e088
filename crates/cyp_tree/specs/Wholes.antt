-- What the public tree keeps: an arena, whose tree has a number for each place.
use Rattle.std.specs.Prelude.{◌≡◌, ℕ, ◌↔◌, List, length}
use Rattle.std.specs.List.{Contains}
use Rattle.cyp_tree.specs.declared.places.Place.{Place}
use Rattle.cyp_tree.specs.declared.places.Way.{Way}
use Rattle.cyp_tree.specs.declared.marks.Marks.{Marks}
use Rattle.cyp_tree.specs.Trees.{Tree}
use Rattle.cyp_tree.specs.Sizes.{size, depth}
use Rattle.cyp_tree.specs.Numbers.{IsNumbered, Rises}
use Rattle.cyp_tree.specs.Standing.{standing}
use Rattle.cyp_tree.specs.Places.{IsLive}
use Rattle.cyp_tree.specs.Arenas.{IsArena}

-- the lists are an arena, and the numbers of its tree are those of the places
pub record IsWhole {R N : Type 0} (root : N) (ps : List (Place N)) (ws : List (Way R)) (m : Marks) : Type 0 where
  pub arena : IsArena ps ws m
  pub numbered : IsNumbered (standing root ps ws)
  pub counted : size (standing root ps ws) ≡ length ps

-- the same, and the depth of the tree is this
pub record IsTree {R N : Type 0} (root : N) (ps : List (Place N)) (ws : List (Way R)) (m : Marks) (deepest : ℕ) : Type 0 where
  pub whole : IsWhole root ps ws m
  pub deep : deepest ≡ depth (standing root ps ws)

-- the listed numbers rise and are those of the leaves that were live and aren't, but for this one
pub record AreKilled {R N : Type 0} (leaf : ℕ) (old new : Tree R N) (killed : List ℕ) : Type 0 where
  pub are : (k : ℕ) → Contains killed k ↔ (IsLive old k × (IsLive new k → ⊥) × (k ≡ leaf → ⊥))
  pub rise : Rises killed
