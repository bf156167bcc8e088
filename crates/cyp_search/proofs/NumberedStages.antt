-- Each stage of a search is numbered, and its numbers rise.
use Rattle.std.proofs.Common.{ℕ, zero, suc, Option, Some, None}
use Rattle.cyp_tree.specs.Trees.{Tree, Moving}
use Rattle.cyp_tree.specs.Live.{Waiting, next_leaf}
use Rattle.cyp_tree.specs.Growing.{expand_at}
use Rattle.cyp_tree.specs.Numbers.{IsNumbered, IsRising}
use Rattle.cyp_tree.proofs.NewNumbers.{leaf_numbered, grafted_numbered}
use Rattle.cyp_tree.proofs.Rising.{grafted_rising}
use Rattle.cyp_search.specs.Stages.{stage}

abbrev InOrder : {R N : Type 0} → Tree R N → Type 0
InOrder t = IsNumbered t × IsRising t

expanded_in_order : {R N : Type 0} (space : Moving R N) (t : Tree R N) (w : Option (Waiting N)) → InOrder t → InOrder (expand_at space t w)
expanded_in_order space t None h = h
expanded_in_order space t (Some w) h = (grafted_numbered t w.number (space.moves w.node) h.0, grafted_rising t w.number (space.moves w.node) h.0 h.1)

pub stages_numbered : {R N : Type 0} (space : Moving R N) (root : N) (k : ℕ) → IsNumbered (stage space root k) × IsRising (stage space root k)
stages_numbered {R} space root zero = (leaf_numbered R root, tt)
stages_numbered space root (suc k) = expanded_in_order space (stage space root k) (next_leaf space.weight (stage space root k)) (stages_numbered space root k)
