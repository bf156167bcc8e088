-- The rule Call, by which a companion is called.
use Rattle.std.specs.Prelude.{[], ◌++◌, ◌==◌, Bool, List, None, Option, Some, cond, false, is_some, map, max, min, slice_get, suc, true, ℕ, ◌∷◌}
use Rattle.std.specs.List.{list_all, list_any}
use Rattle.cyp_heap.specs.Chunks.{apply_chunk, insts, put_all}
use Rattle.cyp_heap.specs.declared.chunk.Chunk.{Chunk}
use Rattle.cyp_heap.specs.declared.chunk.Chunk.TheVariants.{Inst}
use Rattle.cyp_heap.specs.declared.chunk.InstOf.{InstOf}
use Rattle.cyp_heap.specs.declared.goal.Goal.{Goal}
use Rattle.cyp_heap.specs.declared.goal.Link.{Link}
use Rattle.cyp_heap.specs.declared.goal.Node.{Node}
use Rattle.cyp_measure.specs.Decrease.{decreases}
use Rattle.cyp_pred.specs.Unfold.{card_var}
use Rattle.cyp_pred.specs.declared.unfolded.Next.{Next}
use Rattle.cyp_step.specs.Changes.{Raws, add_pre, next_of, pre_of}
use Rattle.cyp_step.specs.Mends.{writes_for}
use Rattle.cyp_step.specs.Shown.{is_program_expr, shown}
use Rattle.cyp_term.specs.Terms.{apply_lit, apply_term, is_set_var, set_var, var_term, wide_lit, wide_term}
use Rattle.cyp_term.specs.declared.lit.Lit.{Lit}
use Rattle.cyp_term.specs.declared.subst.Subst.{Subst}
use Rattle.cyp_term.specs.declared.term.Sort.TheVariants.{Int, Set}
use Rattle.cyp_term.specs.declared.term.Term.{Term}
use Rattle.cyp_term.specs.declared.term.Var.{Var}
use Rattle.cyp_unify.specs.Matches.{match_at}
use Rattle.cyp_unify.specs.declared.found.Match.{Match}

-- the chunk in a list of its own, or the empty list where there is no chunk
abbrev pub chunk_or_none : Option Chunk → List Chunk
chunk_or_none None = []
chunk_or_none (Some c) = c ∷ []

-- the chunks at these places, and the chunks at none of them
abbrev pub chunks_at : List Chunk → List ℕ → List Chunk
chunks_at cs [] = []
chunks_at cs (k ∷ ks) = chunk_or_none (slice_get cs k) ++ chunks_at cs ks

-- the chunks whose place is none of these, where the first chunk is at place `k`
abbrev pub chunks_beside : ℕ → List ℕ → List Chunk → List Chunk
chunks_beside k ks [] = []
chunks_beside k ks (c ∷ cs) = cond (list_any (λ j. j == k) ks) (chunks_beside (suc k) ks cs) (c ∷ chunks_beside (suc k) ks cs)

-- the greatest among `m` and the instances' tags
abbrev pub greatest_tag : ℕ → List InstOf → ℕ
greatest_tag m [] = m
greatest_tag m (j ∷ js) = greatest_tag (max m j.tag) js

-- one more than the greatest tag, at most 4; 0 where there is none
abbrev pub next_tag : List InstOf → ℕ
next_tag [] = 0
next_tag (i ∷ is) = min 4 (suc (greatest_tag i.tag is))

-- the instances get this tag and new cardinalities
abbrev pub with_new_cards : ℕ → ℕ → List Chunk → List Chunk
with_new_cards tag k [] = []
with_new_cards tag k (Inst i ∷ cs) = Inst (record { pred = i.pred; args = i.args; card = Some (card_var k); tag = tag }) ∷ with_new_cards tag (suc k) cs
with_new_cards tag k (c ∷ cs) = c ∷ with_new_cards tag k cs

-- the bindings of a match, and new variables for the companion's existentials in order
abbrev pub with_exist : Next → List Var → Subst → Subst
with_exist next [] by = by
with_exist next (v ∷ vs) by = elim (is_set_var v) [
  | false ↦ with_exist (record next { ints = suc next.ints }) vs (record by { ints = by.ints ++ record { var = v; to = var_term (record { sort = Int; number = next.ints }) } ∷ [] })
  | true ↦ with_exist (record next { sets = suc next.sets }) vs (record by { sets = by.sets ++ record { var = v; to = set_var (record { sort = Set; number = next.sets }) } ∷ [] })
]

-- the paired chunks go, and what the companion leaves comes in their place
abbrev pub after_call : Node → Link → Match → Node
after_call n l f =
    let next : Next = next_of n in
    let by : Subst = with_exist next l.goal.exist f.by in
    let tag : ℕ = next_tag (insts (chunks_at (pre_of n) f.pairs)) in
    let left : List Chunk = with_new_cards tag next.cards (map (apply_chunk by) l.goal.post.chunks) in
    add_pre n (map (apply_lit by) l.goal.pure_post) (put_all (chunks_beside 0 f.pairs (pre_of n)) left)

-- the literals are shown; one with an offset past 2 ^ 32 is no literal and can't be
abbrev pub are_shown : Goal → List Lit → Bool
are_shown g ls = elim (list_any wide_lit ls) [ true ↦ false | false ↦ shown g ls ]

-- some entry of the decrease is shown; a measure with an offset past 2 ^ 32 after binding is no measure
abbrev pub is_lower : Node → Link → Match → Bool
is_lower n l f =
    let own : List Term = map (apply_term f.by) l.own in
    elim (list_any wide_term own) [ true ↦ false | false ↦ list_any (shown n.goal) (decreases l.tuple own) ]

-- the companion's precondition is there, with program expressions for its variables, and the measure falls
abbrev pub is_callable : Node → Link → Match → Bool
is_callable n l f =
    elim (list_all (λ v. is_program_expr n.goal (apply_term f.by (var_term v))) l.goal.program) [
      | false ↦ false
      | true ↦ elim (shown n.goal f.need) [
        | false ↦ false
        | true ↦ elim (are_shown n.goal (map (apply_lit f.by) l.goal.pure_pre)) [
          | false ↦ false
          | true ↦ elim (is_some (writes_for n.goal f)) [
            | false ↦ false
            | true ↦ is_lower n l f
          ]
        ]
      ]
    ]

-- the node after a call of the companion by this pairing, or none where it can't be called
abbrev pub raw_call : Node → List ℕ → Option Link → Raws
raw_call n ks None = None
raw_call n ks (Some l) = elim (match_at n l ks) [
  | None ↦ None
  | Some f ↦ elim (is_callable n l f) [ false ↦ None | true ↦ Some (after_call n l f ∷ []) ]
]
