-- Frames, and companions that lie in a node, computed.
use Rattle.std.proofs.Common.{◌≡◌, ℕ, pos, List, [], ◌∷◌, Option, Some, None, refl}
use Rattle.std.specs.Prelude.{neg_ℤ}
use Rattle.cyp_heap.specs.declared.chunk.Chunk.{Chunk}
use Rattle.cyp_heap.specs.declared.goal.Link.{Link}
use Rattle.cyp_heap.specs.declared.goal.Node.{Node}
use Rattle.cyp_term.specs.Terms.{plus}
use Rattle.cyp_term.specs.declared.lit.Lit.TheVariants.{Eq, Same}
use Rattle.cyp_term.specs.declared.subst.Subst.{Subst}
use Rattle.cyp_term.specs.declared.term.Term.{Term}
use Rattle.cyp_unify.specs.Frames.{frame_pairs}
use Rattle.cyp_unify.specs.Matches.{match_at, matches}
use Rattle.cyp_unify.specs.declared.found.Match.{Match}
use Rattle.cyp_heap.proofs.Short.{K, S, X, X+, block, cell, dispose, k, left_as_is, list_at, lists, node, num, s, with_elem, write_five, x}

-- ---- frames

-- the address and then the content, of the post first
cells_framed : frame_pairs write_five.goal ≡ record { pre = 0; lits = Eq (X 0) (X 0) ∷ Eq (num 5) (X 1) ∷ [] } ∷ []
cells_framed = refl

-- the arguments in order; cardinalities aren't compared
instances_framed : frame_pairs left_as_is.goal ≡ record { pre = 0; lits = Eq (X 0) (X 0) ∷ Same (S 0) (S 0) ∷ [] } ∷ []
instances_framed = refl

-- only the first chunk of the post is framed, and only by chunks of its kind and size
blocks_framed : frame_pairs (node lists (x 0 ∷ []) [] [] (block (X 0) 2 ∷ block (X 1) 1 ∷ block (X 2) 1 ∷ cell (X 0) (num 5) ∷ []) [] (block (X 3) 1 ∷ cell (X 0) (num 5) ∷ [])).goal
    ≡ record { pre = 1; lits = Eq (X 3) (X 1) ∷ [] } ∷ record { pre = 2; lits = Eq (X 3) (X 2) ∷ [] } ∷ []
blocks_framed = refl

nothing_to_frame : frame_pairs dispose.goal ≡ []
nothing_to_frame = refl

-- ---- matches

-- a companion with these chunks in its pre, and with this map
abbrev companion : List Chunk → Subst → Link
companion cs m = record { goal = (node lists (x 0 ∷ []) [] [] cs [] []).goal; own = []; map = m; tuple = [] }

abbrev no_map : Subst
no_map = record { ints = []; sets = [] }

-- a node with these chunks in its pre
abbrev present : List Chunk → Node
present cs = node lists (x 5 ∷ []) [] [] cs [] []

-- a list by any of two lists, the first one first
abbrev two_lists : Node
two_lists = present (list_at (X 5) (S 5) (Some (k 5)) ∷ cell (X 8) (num 0) ∷ list_at (X 6) (S 6) (Some (k 6)) ∷ [])

abbrev by_list : ℕ → ℕ → Match
by_list place n = record {
  pairs = place ∷ [];
  by = record { ints = record { var = x 0; to = X n } ∷ record { var = k 0; to = K n } ∷ []; sets = record { var = s 0; to = S n } ∷ [] };
  need = [];
  mends = [];
}

each_list : matches two_lists (companion (list_at (X 0) (S 0) (Some (k 0)) ∷ []) no_map) ≡ by_list 0 5 ∷ by_list 2 6 ∷ []
each_list = refl

second_list : match_at two_lists (companion (list_at (X 0) (S 0) (Some (k 0)) ∷ []) no_map) (2 ∷ []) ≡ Some (by_list 2 6)
second_list = refl

-- a pairing has as many places as the companion has chunks, each once and of a chunk of its kind
too_few : match_at two_lists (companion (list_at (X 0) (S 0) (Some (k 0)) ∷ []) no_map) [] ≡ None
too_few = refl

not_alike : match_at two_lists (companion (list_at (X 0) (S 0) (Some (k 0)) ∷ []) no_map) (1 ∷ []) ≡ None
not_alike = refl

used_twice : match_at two_lists (companion (list_at (X 0) (S 0) (Some (k 0)) ∷ list_at (X 1) (S 1) (Some (k 1)) ∷ []) no_map) (0 ∷ 0 ∷ []) ≡ None
used_twice = refl

-- ---- bindings, equalities and stores

-- the companion's only cell by the node's only cell
abbrev one_cell : Term → Term → Term → Term → Option Match
one_cell at content present_at present_content =
    match_at (present (cell present_at present_content ∷ [])) (companion (cell at content ∷ []) no_map) (0 ∷ [])

-- the variable of content + 1 is bound to one less
content_binds : one_cell (X 0) (X+ 1 1) (X 5) (X 6)
    ≡ Some (record {
      pairs = 0 ∷ [];
      by = record { ints = record { var = x 0; to = X 5 } ∷ record { var = x 1; to = plus (X 6) (neg_ℤ (pos 1)) } ∷ []; sets = [] };
      need = [];
      mends = [];
    })
content_binds = refl

-- a content without an unbound variable is to be stored
number_stored : one_cell (X 0) (num 7) (X 5) (X 6)
    ≡ Some (record { pairs = 0 ∷ []; by = record { ints = record { var = x 0; to = X 5 } ∷ []; sets = [] }; need = []; mends = record { cell = 0; value = num 7 } ∷ [] })
number_stored = refl

address_stored : one_cell (X 0) (X 0) (X 5) (X 6)
    ≡ Some (record { pairs = 0 ∷ []; by = record { ints = record { var = x 0; to = X 5 } ∷ []; sets = [] }; need = []; mends = record { cell = 0; value = X 5 } ∷ [] })
address_stored = refl

-- an address without an unbound variable is to be shown equal
address_needed : one_cell (num 3) (X 0) (X 5) (X 6)
    ≡ Some (record { pairs = 0 ∷ []; by = record { ints = record { var = x 0; to = X 6 } ∷ []; sets = [] }; need = Eq (num 3) (X 5) ∷ []; mends = [] })
address_needed = refl

-- ---- what the map binds

-- s =i {y} ++ t waits until y and t are bound, which they are by the map
abbrev tail_map : Subst
tail_map = record { ints = record { var = x 1; to = X 7 } ∷ []; sets = record { var = s 1; to = S 7 } ∷ [] }

union_waits : match_at (present (list_at (X 5) (S 5) None ∷ [])) (companion (list_at (X 0) (with_elem (X 1) 1) None ∷ []) tail_map) (0 ∷ [])
    ≡ Some (record {
      pairs = 0 ∷ [];
      by = record { ints = record { var = x 0; to = X 5 } ∷ record { var = x 1; to = X 7 } ∷ []; sets = record { var = s 1; to = S 7 } ∷ [] };
      need = Same (with_elem (X 7) 7) (S 5) ∷ [];
      mends = [];
    })
union_waits = refl

-- without an image there is no match
unbound : match_at (present (list_at (X 5) (S 5) None ∷ [])) (companion (list_at (X 0) (with_elem (X 1) 1) None ∷ []) no_map) (0 ∷ []) ≡ None
unbound = refl
