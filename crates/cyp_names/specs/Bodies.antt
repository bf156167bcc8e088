-- The literals and chunks of a body, and their names in the order of the text and in the order in which they are kept.
use Rattle.std.specs.Prelude.{[], Bool, List, cond, false, filter, flat_map, not, true, ◌++◌, ◌∷◌}
use Rattle.cyp_text.specs.LitTrees.{Comparing, Inside, LitTree, Negation, SameSets, SubSets}
use Rattle.cyp_text.specs.declared.tree.BodyTree.{BodyTree}
use Rattle.cyp_text.specs.declared.tree.ChunkTree.{ChunkTree}
use Rattle.cyp_text.specs.declared.tree.ChunkTree.TheVariants.{BlockOf, InstanceOf, NamedCell, TermCell}
use Rattle.cyp_text.specs.declared.tree.Comparison.{Comparison}
use Rattle.cyp_text.specs.declared.tree.Comparison.TheVariants.{IsAbove, IsAtLeast, IsAtMost, IsBelow}
use Rattle.cyp_text.specs.declared.tree.Conjunction.{Conjunction}
use Rattle.cyp_text.specs.declared.tree.ItemTree.{ItemTree}
use Rattle.cyp_text.specs.declared.tree.ItemTree.TheVariants.{LitItem, TrueItem}
use Rattle.cyp_text.specs.declared.tree.PartTree.{PartTree}
use Rattle.cyp_text.specs.declared.tree.PartTree.TheVariants.{Braces, PartName}
use Rattle.cyp_text.specs.declared.tree.PredTree.{PredTree}
use Rattle.cyp_text.specs.declared.tree.PureTree.{PureTree}
use Rattle.cyp_text.specs.declared.tree.PureTree.TheVariants.{Items, NoItems}
use Rattle.cyp_text.specs.declared.tree.SetTree.{SetTree}
use Rattle.cyp_names.specs.Uses.{Use, chunk_uses, int_uses, lit_uses, part_uses, parts_uses, set_parts}

-- `true` adds no literal
abbrev pub item_lits : ItemTree → List LitTree
item_lits TrueItem = []
item_lits (LitItem l) = l ∷ []

-- the literals of a pure part in their order
abbrev pub pure_lits : PureTree → List LitTree
pure_lits NoItems = []
pure_lits (Items i is) = item_lits i ++ flat_map (λ (p : Conjunction × ItemTree). item_lits p.1) is

-- the literals of a body
abbrev pub body_lits : BodyTree → List LitTree
body_lits b = pure_lits b.pure

-- the names in a body, in the order of the text
abbrev pub body_uses : List PredTree → BodyTree → List Use
body_uses qs b = flat_map lit_uses (body_lits b) ++ flat_map (chunk_uses parts_uses qs) b.chunks

-- ---- the order of what is kept

-- the three kinds of chunks
abbrev pub is_instance : ChunkTree → Bool
is_instance (InstanceOf i xs) = true
is_instance _ = false

-- the chunk is a block
abbrev pub is_block : ChunkTree → Bool
is_block (BlockOf a p n) = true
is_block _ = false

-- the chunk is a cell
abbrev pub is_cell : ChunkTree → Bool
is_cell (NamedCell i t) = true
is_cell (TermCell a t) = true
is_cell _ = false

-- instances before blocks before cells, each kind in the order of the text
abbrev pub in_kinds : List ChunkTree → List ChunkTree
in_kinds cs = filter is_instance cs ++ filter is_block cs ++ filter is_cell cs

-- the part is a name
abbrev pub is_name : PartTree → Bool
is_name (PartName i) = true
is_name (Braces p ts) = false

-- of a union its variables before its elements
abbrev pub kept_parts : List PartTree → List Use
kept_parts us = flat_map part_uses (filter is_name us) ++ flat_map part_uses (filter (λ u. not (is_name u)) us)

-- the names in a union as it is kept
abbrev pub kept_set : SetTree → List Use
kept_set u = kept_parts (set_parts u)

-- the sides of a comparison change places, where it stands under `not` and where it doesn't: `a > b` is kept as `b < a`, and `not (a <= b)` too
abbrev pub is_turned : Bool → Comparison → Bool
is_turned negated IsAtMost = negated
is_turned negated IsBelow = negated
is_turned negated IsAtLeast = not negated
is_turned negated IsAbove = not negated
is_turned negated _ = false

-- the names in a literal as it is kept
abbrev pub kept_lit : Bool → LitTree → List Use
kept_lit negated (Comparing a c b) = cond (is_turned negated c) (int_uses b ++ int_uses a) (int_uses a ++ int_uses b)
kept_lit negated (SameSets a b) = kept_set a ++ kept_set b
kept_lit negated (SubSets a b) = kept_set a ++ kept_set b
kept_lit negated (Inside a b) = int_uses a ++ kept_set b
kept_lit negated (Negation p l) = kept_lit (not negated) l

-- the names in a body as it is kept: the literals, then the chunks by their kinds
abbrev pub kept_body : List PredTree → BodyTree → List Use
kept_body qs b = flat_map (kept_lit false) (body_lits b) ++ flat_map (chunk_uses kept_parts qs) (in_kinds b.chunks)
