-- What a call makes, step by step.
use Rattle.std.specs.Prelude.{[], ◌++◌, Bool, List, None, Option, Some, cond, false, map, min, option_map, suc, true, ℕ, ◌∷◌, ◌||◌}
use Rattle.std.specs.List.{list_any}
use Rattle.cyp_heap.specs.Chunks.{apply_chunk, insts, put_all, wide_chunk}
use Rattle.cyp_heap.specs.declared.chunk.Chunk.{Chunk}
use Rattle.cyp_heap.specs.declared.chunk.Chunk.TheVariants.{Inst}
use Rattle.cyp_heap.specs.declared.goal.Goal.{Goal}
use Rattle.cyp_heap.specs.declared.goal.Link.{Link}
use Rattle.cyp_heap.specs.declared.goal.Node.{Node}
use Rattle.cyp_pred.specs.Unfold.{card_var}
use Rattle.cyp_pred.specs.declared.unfolded.Next.{Next}
use Rattle.cyp_step.specs.Calling.{chunks_at, chunks_beside, is_callable, next_tag, with_exist, with_new_cards}
use Rattle.cyp_step.specs.Changes.{next_of, pre_of}
use Rattle.cyp_term.specs.Terms.{apply_lit, is_set_var, set_var, var_term, wide_lit}
use Rattle.cyp_term.specs.declared.lit.Lit.{Lit}
use Rattle.cyp_term.specs.declared.subst.Subst.{Subst}
use Rattle.cyp_term.specs.declared.term.Sort.TheVariants.{Int, Set}
use Rattle.cyp_term.specs.declared.term.Var.{Var}
use Rattle.cyp_unify.specs.declared.found.Match.{Match}

-- ---- new names

-- the next free numbers behind the new variable for this one
abbrev pub next_behind : Next → Var → Next
next_behind next v = elim (is_set_var v) [ false ↦ record next { ints = suc next.ints } | true ↦ record next { sets = suc next.sets } ]

-- the bindings and, behind them, a new variable for this one
abbrev pub with_new_var : Next → Var → Subst → Subst
with_new_var next v by = elim (is_set_var v) [
  | false ↦ record by { ints = by.ints ++ record { var = v; to = var_term (record { sort = Int; number = next.ints }) } ∷ [] }
  | true ↦ record by { sets = by.sets ++ record { var = v; to = set_var (record { sort = Set; number = next.sets }) } ∷ [] }
]

-- an instance gets the tag and the cardinality with this number; other chunks stay
abbrev pub with_card : ℕ → ℕ → Chunk → Chunk
with_card tag k (Inst i) = Inst (record { pred = i.pred; args = i.args; card = Some (card_var k); tag = tag })
with_card tag k c = c

-- the number behind the cardinality of the chunk
abbrev pub card_behind : ℕ → Chunk → ℕ
card_behind k (Inst i) = suc k
card_behind k c = k

-- the tag of what comes of an instance with this tag
abbrev pub tag_behind : ℕ → ℕ
tag_behind tag = min 4 (suc tag)

-- ---- what the companion leaves

-- the companion's postcondition under the bindings has an offset past 2 ^ 32
abbrev pub wide_post : Subst → Goal → Bool
wide_post by g = list_any wide_lit (map (apply_lit by) g.pure_post) || list_any wide_chunk (map (apply_chunk by) g.post.chunks)

-- the literals and the chunks of the companion's postcondition under the bindings
abbrev pub post_under : Subst → Goal → List Lit × List Chunk
post_under by g = (map (apply_lit by) g.pure_post, map (apply_chunk by) g.post.chunks)

-- the bindings of a match, and new variables for the companion's existentials
abbrev pub bound_at : Node → Link → Match → Subst
bound_at n l f = with_exist (next_of n) l.goal.exist f.by

-- literals and chunks, whose instances get this tag and new cardinalities
abbrev pub renewed : ℕ → ℕ → List Lit × List Chunk → List Lit × List Chunk
renewed tag k p = (p.0, with_new_cards tag k p.1)

-- what the companion leaves at a call
abbrev pub call_leaves : Node → Link → Match → List Lit × List Chunk
call_leaves n l f = renewed (next_tag (insts (chunks_at (pre_of n) f.pairs))) (next_of n).cards (post_under (bound_at n l f) l.goal)

-- the same, or none where an offset in it passes 2 ^ 32
abbrev pub narrow_leaves : Node → Link → Match → Option (List Lit × List Chunk)
narrow_leaves n l f = elim (wide_post (bound_at n l f) l.goal) [ true ↦ None | false ↦ Some (call_leaves n l f) ]

-- the paired chunks go, and this comes in their place
abbrev pub with_leaves : Goal → List ℕ → List Lit × List Chunk → Goal
with_leaves g ks p = record g { pure_pre = g.pure_pre ++ p.0; pre = record { chunks = put_all (chunks_beside 0 ks g.pre.chunks) p.1 } }

-- the chunks and, behind them, this one, unless it goes
abbrev pub kept_unless : Bool → List Chunk → Chunk → List Chunk
kept_unless goes kept c = cond goes kept (kept ++ c ∷ [])

-- the goal after a call, or none where an offset in what the companion leaves passes 2 ^ 32
abbrev pub narrow_call : Node → Link → Match → Option Goal
narrow_call n l f = option_map (with_leaves n.goal f.pairs) (narrow_leaves n l f)

-- the goal after a call by this match, or none where the companion can't be called or an offset passes 2 ^ 32
abbrev pub goal_after : Node → Link → Match → Option Goal
goal_after n l f = elim (is_callable n l f) [ false ↦ None | true ↦ narrow_call n l f ]

-- the same, where there is a match
abbrev pub goal_by : Node → Link → Option Match → Option Goal
goal_by n l None = None
goal_by n l (Some f) = goal_after n l f
