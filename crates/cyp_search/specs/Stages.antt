-- The stages of a best-first search.
use Rattle.std.specs.Prelude.{ℕ, zero, suc}
use Rattle.cyp_tree.specs.Trees.{Tree, Leaf, Moving}
use Rattle.cyp_tree.specs.Growing.{expand_next}
use Rattle.cyp_tree.specs.Numbers.{IsNumbered, IsRising}

-- the tree after this many expansions, each at the next leaf of the tree before
abbrev pub stage : {R N : Type 0} → Moving R N → N → ℕ → Tree R N
stage space root zero = Leaf 0 root
stage space root (suc k) = expand_next space (stage space root k)

-- law: at each stage the numbers of the nodes are distinct, below the size, and rising
abbrev pub StagesNumberedLaw : (R N : Type 0) → Type 0
StagesNumberedLaw R N = (space : Moving R N) (root : N) (k : ℕ) → IsNumbered (stage space root k) × IsRising (stage space root k)
