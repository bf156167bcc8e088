-- The names of a text in its two orders: as they are written, and as they are kept.
use Rattle.std.specs.Prelude.{[], Bool, List, None, Option, Some, cond, false, flat_map, not, true, ◌++◌, ◌∷◌}
use Rattle.cyp_term.specs.declared.term.Sort.{Sort}
use Rattle.cyp_names.specs.Bodies.{body_uses, in_kinds, is_block, is_cell, is_instance, is_name, is_turned, item_lits, kept_body, kept_lit, kept_parts}
use Rattle.cyp_text.specs.LitTrees.{LitTree}
use Rattle.cyp_names.specs.Uses.{Use, chunk_uses, int_uses, lit_uses, part_uses, parts_uses, set_parts, use_of}
use Rattle.cyp_text.specs.declared.lit_tree.BaseTree.{BaseTree}
use Rattle.cyp_text.specs.declared.lit_tree.BaseTree.TheVariants.{Comparing, Inside, SameSets, SubSets}
use Rattle.cyp_text.specs.declared.tree.BodyTree.{BodyTree}
use Rattle.cyp_text.specs.declared.tree.ChunkTree.{ChunkTree}
use Rattle.cyp_text.specs.declared.tree.Comparison.{Comparison}
use Rattle.cyp_text.specs.declared.tree.IntTree.{IntTree}
use Rattle.cyp_text.specs.declared.tree.IntTree.TheVariants.{Named}
use Rattle.cyp_text.specs.declared.tree.ItemTree.{ItemTree}
use Rattle.cyp_text.specs.declared.tree.PartTree.{PartTree}
use Rattle.cyp_text.specs.declared.tree.PartTree.TheVariants.{Braces, PartName}
use Rattle.cyp_text.specs.declared.tree.PredTree.{PredTree}
use Rattle.cyp_names.specs.declared.body_uses.ChunkKinds.{ChunkKinds}
use Rattle.cyp_names.specs.declared.body_uses.ChunkKinds.TheVariants.{AllKinds, Blocks, Cells, Instances}
use Rattle.cyp_names.specs.declared.uses.Order.{Order}
use Rattle.cyp_names.specs.declared.uses.Order.TheVariants.{AsKept, OfText}
use Rattle.cyp_names.specs.declared.uses.PartKinds.{PartKinds}
use Rattle.cyp_names.specs.declared.uses.PartKinds.TheVariants.{AllParts, BraceParts, NameParts}
use Rattle.cyp_names.specs.declared.uses.Union.{Union}
use Rattle.cyp_names.specs.declared.uses.Union.TheVariants.{OfBraces, OfName, OfSet}

-- ---- in an order

-- the names in the parts of a union
abbrev pub parts_in : Order → List PartTree → List Use
parts_in OfText = parts_uses
parts_in AsKept = kept_parts

-- the names in a literal
abbrev pub lit_in : Order → LitTree → List Use
lit_in OfText = lit_uses
lit_in AsKept = kept_lit false

-- the chunks of a body
abbrev pub chunks_in : Order → List ChunkTree → List ChunkTree
chunks_in OfText cs = cs
chunks_in AsKept cs = in_kinds cs

-- the names in a body
abbrev pub body_in : Order → List PredTree → BodyTree → List Use
body_in OfText = body_uses
body_in AsKept = kept_body

-- the sides of a comparison change places, where it stands under `not` and where it doesn't
abbrev pub turns : Order → Bool → Comparison → Bool
turns OfText negated c = false
turns AsKept negated c = is_turned negated c

-- the names in a literal without its negations, whose number is odd or not
abbrev pub base_in : Order → Bool → BaseTree → List Use
base_in o negated (Comparing a c b) = cond (turns o negated c) (int_uses b ++ int_uses a) (int_uses a ++ int_uses b)
base_in o negated (SameSets a b) = parts_in o (set_parts a) ++ parts_in o (set_parts b)
base_in o negated (SubSets a b) = parts_in o (set_parts a) ++ parts_in o (set_parts b)
base_in o negated (Inside a b) = int_uses a ++ parts_in o (set_parts b)

-- the names in an item of a pure part
abbrev pub item_uses : Order → ItemTree → List Use
item_uses o i = flat_map (lit_in o) (item_lits i)

-- the names in a term that is an argument whose parameter has this sort, if that is known
abbrev pub term_arg_uses : Option Sort → IntTree → List Use
term_arg_uses None (Named i) = []
term_arg_uses (Some s) (Named i) = use_of s i ∷ []
term_arg_uses s t = int_uses t

-- ---- by kinds

-- the part is of the kind
abbrev pub takes_part : PartKinds → PartTree → Bool
takes_part AllParts u = true
takes_part NameParts u = is_name u
takes_part BraceParts u = not (is_name u)

-- the names in a part of the kind
abbrev pub kind_uses : PartKinds → PartTree → List Use
kind_uses k u = cond (takes_part k u) (part_uses u) []

-- the parts of a union
abbrev pub union_parts : Union → List PartTree
union_parts (OfSet s) = set_parts s.now
union_parts (OfBraces p ts us) = Braces p ts.now ∷ us.now
union_parts (OfName i u us) = PartName i.now ∷ u.now ∷ us.now

-- the chunk is of the kind
abbrev pub takes_chunk : ChunkKinds → ChunkTree → Bool
takes_chunk AllKinds c = true
takes_chunk Instances c = is_instance c
takes_chunk Blocks c = is_block c
takes_chunk Cells c = is_cell c

-- the names in a chunk of the kind
abbrev pub chunk_of_kind : ChunkKinds → Order → List PredTree → ChunkTree → List Use
chunk_of_kind k o qs c = cond (takes_chunk k c) (chunk_uses (parts_in o) qs c) []
