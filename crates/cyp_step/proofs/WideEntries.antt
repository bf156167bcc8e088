-- An entry with an offset past 2 ^ 32 makes the goal wide that it is put into.
use Rattle.std.proofs.Common.{◌≡◌, ◌∙◌, ◌++◌, ◌∷◌, ◌||◌, ℕ, [], Bool, List, false, inl, inr, map, nat_lt, true}
use Rattle.std.specs.List.{list_any}
use Rattle.std.proofs.lemmas.Bool.{cond_both, false≢true, or_cases, or_left, or_right}
use Rattle.std.proofs.lemmas.List.Folds.{list_any-append}
use Rattle.cyp_heap.specs.Chunks.{kind_rank, put, put_all, wide_chunk, without}
use Rattle.cyp_heap.specs.Goals.{wide_goal, wide_link, wide_node}
use Rattle.cyp_heap.specs.declared.chunk.Chunk.{Chunk}
use Rattle.cyp_heap.specs.declared.goal.Goal.{Goal}
use Rattle.cyp_heap.specs.declared.goal.Link.{Link}
use Rattle.cyp_heap.specs.declared.goal.Node.{Node}
use Rattle.cyp_pred.specs.Unfold.{wide_unfolded}
use Rattle.cyp_pred.specs.declared.unfolded.Next.{Next}
use Rattle.cyp_pred.specs.declared.unfolded.Unfolded.{Unfolded}
use Rattle.cyp_step.specs.UnfoldParts.{closed_goal, opened_goal}
use Rattle.cyp_step.specs.Unfolding.{open_premise}
use Rattle.cyp_term.specs.Terms.{wide_lit}
use Rattle.cyp_term.specs.declared.lit.Lit.{Lit}

module _ (p : Chunk → Bool) where
  any_put : (cs : List Chunk) (c : Chunk) → p c ≡ true → list_any p (put cs c) ≡ true
  any_put [] c e = or_left (p c) false e
  any_put (d ∷ ds) c e =
      cond_both (nat_lt (kind_rank c) (kind_rank d)) (c ∷ d ∷ ds) (d ∷ put ds c) (λ es. list_any p es ≡ true)
      (λ k. or_left (p c) (list_any p (d ∷ ds)) e)
      (λ k. or_right (p d) (list_any p (put ds c)) (any_put ds c e))

  any_kept : (cs : List Chunk) (c : Chunk) → list_any p cs ≡ true → list_any p (put cs c) ≡ true
  any_kept [] c e = absurd (false≢true e)
  any_kept (d ∷ ds) c e =
      cond_both (nat_lt (kind_rank c) (kind_rank d)) (c ∷ d ∷ ds) (d ∷ put ds c) (λ es. list_any p es ≡ true)
      (λ k. or_right (p c) (list_any p (d ∷ ds)) e)
      (λ k. elim (or_cases (p d) (list_any p ds) e) [
        | inl h ↦ or_left (p d) (list_any p (put ds c)) h
        | inr h ↦ or_right (p d) (list_any p (put ds c)) (any_kept ds c h)
      ])

  any_kept_all : (cs ds : List Chunk) → list_any p cs ≡ true → list_any p (put_all cs ds) ≡ true
  any_kept_all cs [] e = e
  any_kept_all cs (d ∷ ds) e = any_kept_all (put cs d) ds (any_kept cs d e)

  any_put_all : (cs ds : List Chunk) → list_any p ds ≡ true → list_any p (put_all cs ds) ≡ true
  any_put_all cs [] e = absurd (false≢true e)
  any_put_all cs (d ∷ ds) e = elim (or_cases (p d) (list_any p ds) e) [
    | inl h ↦ any_kept_all (put cs d) ds (any_put cs d h)
    | inr h ↦ any_put_all (put cs d) ds h
  ]

lits_behind : (ls ms : List Lit) → list_any wide_lit ms ≡ true → list_any wide_lit (ls ++ ms) ≡ true
lits_behind ls ms e = list_any-append wide_lit ls ms ∙ or_right (list_any wide_lit ls) (list_any wide_lit ms) e

module _ (a b c d : Bool) where
  first : a ≡ true → (a || b || c || d) ≡ true
  first e = or_left (a || b || c) d (or_left (a || b) c (or_left a b e))

  second : b ≡ true → (a || b || c || d) ≡ true
  second e = or_left (a || b || c) d (or_left (a || b) c (or_right a b e))

  third : c ≡ true → (a || b || c || d) ≡ true
  third e = or_left (a || b || c) d (or_right (a || b) c e)

  fourth : d ≡ true → (a || b || c || d) ≡ true
  fourth e = or_right (a || b || c) d e

module _ (g : Goal) (u : Unfolded) (e : wide_unfolded u ≡ true) where
  abbrev pub lits : List Lit
  lits = u.guard ∷ u.lits

  wide_opened : (i : ℕ) → wide_goal (opened_goal g i u) ≡ true
  wide_opened i =
      let ls : List Lit = g.pure_pre ++ lits in
      let cs : List Chunk = put_all (without g.pre.chunks i) u.heap.chunks in
      elim (or_cases (list_any wide_lit lits) (list_any wide_chunk u.heap.chunks) e) [
        | inl h ↦ first (list_any wide_lit ls) (list_any wide_chunk cs) (list_any wide_lit g.pure_post) (list_any wide_chunk g.post.chunks) (lits_behind g.pure_pre lits h)
        | inr h ↦ second (list_any wide_lit ls) (list_any wide_chunk cs) (list_any wide_lit g.pure_post) (list_any wide_chunk g.post.chunks)
            (any_put_all wide_chunk (without g.pre.chunks i) u.heap.chunks h)
      ]

  pub wide_closed : (next : Next) → wide_goal (closed_goal g next u) ≡ true
  wide_closed next =
      let ls : List Lit = g.pure_post ++ lits in
      let cs : List Chunk = put_all (without g.post.chunks 0) u.heap.chunks in
      elim (or_cases (list_any wide_lit lits) (list_any wide_chunk u.heap.chunks) e) [
        | inl h ↦ third (list_any wide_lit g.pure_pre) (list_any wide_chunk g.pre.chunks) (list_any wide_lit ls) (list_any wide_chunk cs) (lits_behind g.pure_post lits h)
        | inr h ↦ fourth (list_any wide_lit g.pure_pre) (list_any wide_chunk g.pre.chunks) (list_any wide_lit ls) (list_any wide_chunk cs)
            (any_put_all wide_chunk (without g.post.chunks 0) u.heap.chunks h)
      ]

-- a wide goal makes its node wide
pub wide_with : (m : Node) → wide_goal m.goal ≡ true → wide_node m ≡ true
wide_with m e = or_left (wide_goal m.goal) (list_any wide_link m.links) e

module _ (n : Node) (i : ℕ) (l : Link) where
  pub wide_premises : (us : List Unfolded) → list_any wide_unfolded us ≡ true → list_any (λ (m : Node). wide_node m) (map (open_premise n i l) us) ≡ true
  wide_premises [] e = absurd (false≢true e)
  wide_premises (u ∷ us) e =
      let m : Node = open_premise n i l u in
      let rest : Bool = list_any (λ (k : Node). wide_node k) (map (open_premise n i l) us) in
      elim (or_cases (wide_unfolded u) (list_any wide_unfolded us) e) [
        | inl h ↦ or_left (wide_node m) rest (wide_with m (wide_opened n.goal u h i))
        | inr h ↦ or_right (wide_node m) rest (wide_premises us h)
      ]
