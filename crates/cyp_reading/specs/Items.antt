-- The literals of items behind conjunctions.
use Rattle.std.specs.Prelude.{List, flat_map}
use Rattle.cyp_names.specs.Bodies.{item_lits}
use Rattle.cyp_text.specs.LitTrees.{LitTree}
use Rattle.cyp_text.specs.declared.tree.Conjunction.{Conjunction}
use Rattle.cyp_text.specs.declared.tree.ItemTree.{ItemTree}

-- in their order
abbrev pub items_lits : List (Conjunction × ItemTree) → List LitTree
items_lits is = flat_map (λ (p : Conjunction × ItemTree). item_lits p.1) is
