-- The matches of a companion, where some of its chunks are paired already: the places of their present chunks are those chosen.
use Rattle.std.specs.Prelude.{[], ◌&&◌, ◌++◌, ◌==◌, Bool, List, cond, filter_map, flat_map, not, take, ◌∷◌, ℕ}
use Rattle.std.specs.List.{list_any}
use Rattle.std.specs.Option.{option_to_list}
use Rattle.cyp_heap.specs.declared.chunk.Chunk.{Chunk}
use Rattle.cyp_heap.specs.declared.goal.Link.{Link}
use Rattle.cyp_unify.specs.Frames.{alike, with_places}
use Rattle.cyp_unify.specs.Matches.{pairings}
use Rattle.cyp_unify.specs.Meeting.{match_in, may_pair}
use Rattle.cyp_unify.specs.declared.found.Match.{Match}
use Rattle.cyp_unify.specs.declared.listing.Listing.{Listing}

-- the present chunk is alike, and its place isn't chosen
abbrev pub may_follow : List ℕ → Chunk → ℕ × Chunk → Bool
may_follow chosen c p = alike c p.1 && not (list_any (λ j. j == p.0) chosen)

-- the matches of the pairings that begin with the places chosen, in lexicographic order; these chunks are still to be paired
abbrev pub matches_from : List Chunk → Link → List ℕ → List Chunk → List Match
matches_from present l chosen [] = option_to_list (match_in present l chosen)
matches_from present l chosen (c ∷ cs) =
    flat_map (λ (p : ℕ × Chunk). cond (may_follow chosen c p) (matches_from present l (chosen ++ p.0 ∷ []) cs) []) (with_places 0 present)

-- those where the first of the chunks is paired with the present chunk at this place
abbrev pub matches_by : List Chunk → Link → List ℕ → Chunk → List Chunk → ℕ → List Match
matches_by present l chosen c cs k = cond (may_pair present c k chosen) (matches_from present l (chosen ++ k ∷ []) cs) []

-- these matches come next, up to the 64th of all
abbrev pub with_more : Listing → List Match → Listing
with_more s more = record { chosen = s.chosen; found = take 64 (s.found ++ more) }

-- the first 64 matches with these present chunks
abbrev pub matches_in : List Chunk → Link → List Match
matches_in present l = take 64 (filter_map (match_in present l) (pairings (with_places 0 present) [] l.goal.pre.chunks))
