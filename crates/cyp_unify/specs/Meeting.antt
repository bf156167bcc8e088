-- Where a companion's chunks and the present ones meet, and how what stays unbound is bound.
use Rattle.std.specs.Prelude.{◌≡◌, ◌==◌, ◌&&◌, ◌++◌, [], ◌∷◌, Bool, Err, List, None, Ok, Option, Result, Some, false, is_some, not, option_map, slice_get, true, ℕ}
use Rattle.std.specs.List.{list_any}
use Rattle.std.specs.Option.{option_and_then}
use Rattle.cyp_term.specs.Terms.{apply_set, int_image, set_image, wide_subst}
use Rattle.cyp_heap.specs.Formed.{is_card_var}
use Rattle.cyp_heap.specs.declared.chunk.Chunk.{Chunk}
use Rattle.cyp_heap.specs.declared.chunk.Chunk.TheVariants.{Inst}
use Rattle.cyp_heap.specs.declared.goal.Link.{Link}
use Rattle.cyp_term.specs.declared.fail.Fail.{Fail}
use Rattle.cyp_term.specs.declared.fail.Fail.TheVariants.{Named, NoMemory}
use Rattle.cyp_term.specs.declared.lit.Lit.{Lit}
use Rattle.cyp_term.specs.declared.lit.Lit.TheVariants.{Same}
use Rattle.cyp_term.specs.declared.lit.SetTerm.{SetTerm}
use Rattle.cyp_term.specs.declared.subst.Subst.{Subst}
use Rattle.cyp_term.specs.declared.term.Var.{Var}
use Rattle.cyp_unify.specs.Frames.{alike}
use Rattle.cyp_unify.specs.Matches.{Position, Walk, add_int, add_set, finish_match, no_walk, pair_positions, positions, walk}
use Rattle.cyp_unify.specs.Walking.{wide_walk}
use Rattle.cyp_unify.specs.declared.found.Match.{Match}

-- an instance has a cardinality, and it is of sort Card
abbrev pub has_card : Chunk → Bool
has_card (Inst i) = is_card_var i.card
has_card _ = true

-- the positions of a companion's chunk and the present chunk at this place, if there is one
abbrev pub positions_at : List Chunk → Chunk → ℕ → List Position
positions_at present c k = elim (slice_get present k) [ None ↦ [] | Some d ↦ positions c k d ]

-- the positions of the companion's chunks and the present chunks at these places
abbrev pub positions_of : List Chunk → List Chunk → List ℕ → List Position
positions_of present (c ∷ cs) (k ∷ ks) = positions_at present c k ++ positions_of present cs ks
positions_of present _ _ = []

-- the present chunk at this place is there and alike, and its place is none of the later ones
abbrev pub may_pair : List Chunk → Chunk → ℕ → List ℕ → Bool
may_pair present c k ks = elim (slice_get present k) [ None ↦ false | Some d ↦ alike c d && not (list_any (λ j. j == k) ks) ]

-- the match of a companion with these present chunks by this pairing, where there is one
abbrev pub match_in : List Chunk → Link → List ℕ → Option Match
match_in present l ks = option_and_then (λ (ps : List Position). finish_match l ks (walk l.goal.exist no_walk ps)) (pair_positions present l.goal.pre.chunks ks)

-- the walk is as expected; it is refused only where an offset in that passes 2 ^ 32
abbrev pub Walks : {E : Type 0} → Walk → Result Walk (Fail E) → Type 0
Walks expected (Ok found) = found ≡ expected
Walks expected (Err (Named e)) = wide_walk expected ≡ true
Walks expected (Err NoMemory) = Unit {0}

-- ---- what stays unbound

-- a variable of integers is bound, where need be by the map
abbrev pub int_bound : Subst → Subst → Var → Option Subst
int_bound m by v = elim (is_some (int_image by.ints v)) [ true ↦ Some by | false ↦ option_map (add_int by v) (int_image m.ints v) ]

-- a variable of sets is bound, where need be by the map
abbrev pub set_bound : Subst → Subst → Var → Option Subst
set_bound m by v = elim (is_some (set_image by.sets v)) [ true ↦ Some by | false ↦ option_map (add_set by v) (set_image m.sets v) ]

-- the bindings are these, with offsets in range; or there are none
abbrev pub Binds : Option Subst → Subst → Bool → Type 0
Binds expected by true = (expected ≡ Some by) × (wide_subst by ≡ false)
Binds expected by false = expected ≡ None

-- the equality of set terms that waited, once all is bound
abbrev pub late_lit : Subst → SetTerm × SetTerm → Lit
late_lit by p = Same (apply_set by p.0) p.1
