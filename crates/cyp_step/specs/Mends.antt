-- The stores that a call needs before it.
use Rattle.std.specs.Prelude.{[], ◌&&◌, Bool, List, None, Option, Some, cond, false, filter, not, slice_get, ◌∷◌}
use Rattle.std.specs.List.{list_all}
use Rattle.cyp_heap.specs.declared.chunk.Chunk.{Chunk}
use Rattle.cyp_heap.specs.declared.chunk.Chunk.TheVariants.{Cell}
use Rattle.cyp_heap.specs.declared.goal.Goal.{Goal}
use Rattle.cyp_step.specs.Shown.{is_program_expr, shown}
use Rattle.cyp_term.specs.declared.lit.Lit.TheVariants.{Eq}
use Rattle.cyp_term.specs.declared.term.Term.{Term}
use Rattle.cyp_unify.specs.declared.found.Match.{Match}
use Rattle.cyp_unify.specs.declared.found.Mend.{Mend}

-- the content of a cell, and none for anything else
abbrev pub content_of : Option Chunk → Option Term
content_of (Some (Cell c)) = Some c.content
content_of _ = None

-- the address of a cell, and none for anything else
abbrev pub address_of : Option Chunk → Option Term
address_of (Some (Cell c)) = Some c.at
address_of _ = None

-- the value isn't shown equal to the cell's content
abbrev pub is_needed : Goal → Mend → Bool
is_needed g m = elim (content_of (slice_get g.pre.chunks m.cell)) [ None ↦ false | Some c ↦ not (shown g (Eq m.value c ∷ [])) ]

-- the program can do the store: the address of its cell and its value are program expressions
abbrev pub is_writable : Goal → Mend → Bool
is_writable g m = elim (address_of (slice_get g.pre.chunks m.cell)) [ None ↦ false | Some a ↦ is_program_expr g a && is_program_expr g m.value ]

-- the stores that are needed, where each is one of program expressions
abbrev pub writes_for : Goal → Match → Option (List Mend)
writes_for g f =
    let kept : List Mend = filter (is_needed g) f.mends in
    cond (list_all (is_writable g) kept) (Some kept) None
