-- The element terms of a body, and instances whose arguments can be read.
use Rattle.std.specs.Prelude.{List, flat_map, ◌++◌}
use Rattle.cyp_heap.specs.Limits.{chunk_elements}
use Rattle.cyp_reading.specs.Readable.{ArgsReadable}
use Rattle.cyp_term.specs.Terms.{lit_elements}
use Rattle.cyp_term.specs.declared.term.Term.{Term}
use Rattle.cyp_names.specs.ReadTerms.{Scope, read_chunk, read_lits}
use Rattle.cyp_names.specs.Uses.{arg_sorts}
use Rattle.cyp_text.specs.declared.tree.BodyTree.{BodyTree}
use Rattle.cyp_text.specs.declared.tree.ChunkTree.{ChunkTree}
use Rattle.cyp_text.specs.declared.tree.ChunkTree.TheVariants.{InstanceOf}
use Rattle.cyp_text.specs.declared.tree.PredTree.{PredTree}

-- the arguments of an instance can be read
abbrev pub ArgsOf : List PredTree → Scope → ChunkTree → Type 0
ArgsOf qs sc (InstanceOf i xs) = ArgsReadable sc (arg_sorts qs i xs) xs
ArgsOf qs sc _ = Unit {0}

-- the element terms in the arguments of an instance
abbrev pub tree_elements : List PredTree → Scope → ChunkTree → List Term
tree_elements qs sc c = chunk_elements (read_chunk qs sc c)

-- the element terms of the literals, then those of the chunks in the order of the text
abbrev pub body_elements : List PredTree → Scope → BodyTree → List Term
body_elements qs sc b = flat_map lit_elements (read_lits sc b) ++ flat_map (tree_elements qs sc) b.chunks
