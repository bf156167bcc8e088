-- Trees whose blocks have sizes that a block may have.
use Rattle.std.specs.Prelude.{map, max, min}
use Rattle.cyp_text.specs.declared.tree.BodyTree.{BodyTree}
use Rattle.cyp_text.specs.declared.tree.ChunkTree.{ChunkTree}
use Rattle.cyp_text.specs.declared.tree.ChunkTree.TheVariants.{BlockOf}
use Rattle.cyp_text.specs.declared.tree.TextTree.{TextTree}

-- a block's size brought into 1 to 8
abbrev pub mended : ChunkTree → ChunkTree
mended (BlockOf a p n) = BlockOf a p (max 1 (min n 8))
mended c = c

-- each block of a body
abbrev pub mended_body : BodyTree → BodyTree
mended_body b = record b { chunks = map mended b.chunks }

-- each block of the procedure
abbrev pub mended_text : TextTree → TextTree
mended_text t = record t { pre = mended_body t.pre; post = mended_body t.post }
