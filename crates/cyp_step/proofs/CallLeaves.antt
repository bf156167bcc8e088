-- What a call leaves: its instances fit, and where an offset in it is too large the rule has no premises.
use Rattle.std.proofs.Common.{◌≡◌, ◌∙◌, ◌==◌, ◌≤◌, ◌||◌, ℕ, suc, Bool, true, false, List, [], ◌∷◌, None, Option, Some, IfSome, IsTrue, ap, length, map, option_map, refl, slice_get, subst, sym, nat_lt}
use Rattle.std.specs.List.{list_all, list_any}
use Rattle.std.specs.Option.{option_and_then}
use Rattle.std.proofs.lemmas.Bool.{cond_both, eqb-true, or_left, or_right}
use Rattle.std.proofs.lemmas.List.Folds.{list_any-append}
use Rattle.cyp_goal.proofs.LinksFit.{insts_fit_from, sides_fit}
use Rattle.cyp_heap.specs.Chunks.{apply_chunk, kind_rank, put, put_all, wide_chunk}
use Rattle.cyp_heap.specs.Formed.{insts_fit}
use Rattle.cyp_heap.specs.Goals.{wide_goal, wide_node}
use Rattle.cyp_heap.specs.Keeps.{KeepsNode}
use Rattle.cyp_heap.specs.Limits.{is_within_limits}
use Rattle.cyp_heap.specs.declared.chunk.Chunk.{Chunk}
use Rattle.cyp_heap.specs.declared.chunk.Chunk.TheVariants.{Block, Cell, Inst}
use Rattle.cyp_heap.specs.declared.goal.Goal.{Goal}
use Rattle.cyp_heap.specs.declared.goal.Link.{Link}
use Rattle.cyp_heap.specs.declared.goal.Node.{Node}
use Rattle.cyp_step.proofs.ChunkLists.{list_all-slice_get}
use Rattle.cyp_step.proofs.GoalOfNode.{goal_of_node}
use Rattle.cyp_step.proofs.UnfoldedRaws.{called_fits}
use Rattle.cyp_step.specs.Called.{bound_at, call_leaves, goal_by, narrow_call, wide_post, with_leaves}
use Rattle.cyp_step.specs.Calling.{after_call, chunks_beside, is_callable, raw_call, with_new_cards}
use Rattle.cyp_step.specs.Changes.{Raws}
use Rattle.cyp_step.specs.Leaving.{LeavesRaws}
use Rattle.cyp_step.specs.Nodes.{IsNode}
use Rattle.cyp_step.specs.Step.{all_normal, raws}
use Rattle.cyp_step.specs.declared.rule.CallBy.{CallBy}
use Rattle.cyp_step.specs.declared.rule.Rule.TheVariants.{ByCall}
use Rattle.cyp_term.specs.Terms.{wide_lit}
use Rattle.cyp_term.specs.declared.lit.Lit.{Lit}
use Rattle.cyp_unify.specs.Matches.{match_at}
use Rattle.cyp_unify.specs.declared.found.Match.{Match}

-- ---- offsets

wide_cards : (tag k : ℕ) (cs : List Chunk) → list_any wide_chunk (with_new_cards tag k cs) ≡ list_any wide_chunk cs
wide_cards tag k [] = refl
wide_cards tag k (Inst i ∷ cs) = ap (λ b. wide_chunk (Inst i) || b) (wide_cards tag (suc k) cs)
wide_cards tag k (Block b ∷ cs) = ap (λ t. wide_chunk (Block b) || t) (wide_cards tag k cs)
wide_cards tag k (Cell c ∷ cs) = ap (λ b. wide_chunk (Cell c) || b) (wide_cards tag k cs)

module _ (p : Chunk → Bool) where
  put_there : (cs : List Chunk) (c : Chunk) → p c ≡ true → list_any p (put cs c) ≡ true
  put_there [] c h = or_left (p c) false h
  put_there (d ∷ ds) c h =
      cond_both (nat_lt (kind_rank c) (kind_rank d)) (c ∷ d ∷ ds) (d ∷ put ds c) (λ xs. list_any p xs ≡ true)
      (λ e. or_left (p c) (list_any p (d ∷ ds)) h) (λ e. or_right (p d) (list_any p (put ds c)) (put_there ds c h))

  or_cases : (a b : Bool) (P : Type 0) → (a || b) ≡ true → (a ≡ true → P) → (b ≡ true → P) → P
  or_cases true b P h f g = f refl
  or_cases false b P h f g = g h

  put_kept : (cs : List Chunk) (c : Chunk) → list_any p cs ≡ true → list_any p (put cs c) ≡ true
  put_kept [] c h = cc
  put_kept (d ∷ ds) c h =
      cond_both (nat_lt (kind_rank c) (kind_rank d)) (c ∷ d ∷ ds) (d ∷ put ds c) (λ xs. list_any p xs ≡ true)
      (λ e. or_right (p c) (list_any p (d ∷ ds)) h)
      (λ e. or_cases (p d) (list_any p ds) (list_any p (d ∷ put ds c) ≡ true) h (λ k. or_left (p d) (list_any p (put ds c)) k) (λ k. or_right (p d) (list_any p (put ds c)) (put_kept ds c k)))

  all_kept : (cs ds : List Chunk) → list_any p cs ≡ true → list_any p (put_all cs ds) ≡ true
  all_kept cs [] h = h
  all_kept cs (d ∷ ds) h = all_kept (put cs d) ds (put_kept cs d h)

  pub all_there : (cs ds : List Chunk) → list_any p ds ≡ true → list_any p (put_all cs ds) ≡ true
  all_there cs [] h = cc
  all_there cs (d ∷ ds) h =
      or_cases (p d) (list_any p ds) (list_any p (put_all (put cs d) ds) ≡ true) h (λ k. all_kept (put cs d) ds (put_there cs d k)) (λ k. all_there (put cs d) ds k)

-- offsets of literals behind others, and of chunks among others
wide_leaves : (g : Goal) (ks : List ℕ) (ls : List Lit) (cs : List Chunk) → (list_any wide_lit ls || list_any wide_chunk cs) ≡ true → wide_goal (with_leaves g ks (ls, cs)) ≡ true
wide_leaves g ks ls cs h =
    let h1 : Goal = with_leaves g ks (ls, cs) in
    let a : Bool = list_any wide_lit h1.pure_pre in
    let b : Bool = list_any wide_chunk h1.pre.chunks in
    let c : Bool = list_any wide_lit h1.pure_post in
    let d : Bool = list_any wide_chunk h1.post.chunks in
    or_left (a || b || c) d (or_left (a || b) c
    (or_cases wide_chunk (list_any wide_lit ls) (list_any wide_chunk cs) ((a || b) ≡ true) h
    (λ k. or_left a b (list_any-append wide_lit g.pure_pre ls ∙ or_right (list_any wide_lit g.pure_pre) (list_any wide_lit ls) k))
    (λ k. or_right a b (all_there wide_chunk (chunks_beside 0 ks g.pre.chunks) cs k))))

module _ (n : Node) (l : Link) (f : Match) where
  wide_after : wide_post (bound_at n l f) l.goal ≡ true → wide_node (after_call n l f) ≡ true
  wide_after h =
      let p : List Lit × List Chunk = call_leaves n l f in
      or_left (wide_goal (after_call n l f).goal) _
      (wide_leaves n.goal f.pairs p.0 p.1
      (ap (λ b. list_any wide_lit p.0 || b) (wide_cards _ _ (map (apply_chunk (bound_at n l f)) l.goal.post.chunks)) ∙ h))

-- ---- the rule

-- the node with the goal, where there is one
abbrev pub with_goal : Node → Option Goal → Raws
with_goal n o = option_map (λ (g : Goal). record n { goal = g } ∷ []) o

module _ (n : Node) (c : CallBy) where
  -- what is left where the companion is there, where it matches, and where it can be called
  abbrev with_link : Option Link → Raws
  with_link o = raw_call n c.pairs o

  abbrev tested : Link → Match → Bool → Raws
  tested l f b = elim b [ false ↦ None | true ↦ Some (after_call n l f ∷ []) ]

  abbrev with_match : Link → Option Match → Raws
  with_match l o = elim o [ None ↦ None | Some f ↦ tested l f (is_callable n l f) ]

  not_left : raws n (ByCall c) ≡ None → LeavesRaws n (ByCall c) None
  not_left e = ap (λ (o : Raws). option_and_then all_normal o) e

  abbrev narrowed : Link → Match → Bool → Option Goal
  narrowed l f b = option_map (with_leaves n.goal f.pairs) (elim b [ true ↦ None | false ↦ Some (call_leaves n l f) ])

  by_width : (l : Link) (f : Match) (b : Bool) → wide_post (bound_at n l f) l.goal ≡ b → raws n (ByCall c) ≡ Some (after_call n l f ∷ [])
      → LeavesRaws n (ByCall c) (with_goal n (narrowed l f b))
  by_width l f false e h = h
  by_width l f true e h = ap (λ (o : Raws). option_and_then all_normal o) h ∙ rw (wide_after n l f e, all_normal) refl

  by_test : (l : Link) (f : Match) (b : Bool) → is_callable n l f ≡ b → raws n (ByCall c) ≡ tested l f (is_callable n l f)
      → LeavesRaws n (ByCall c) (with_goal n (elim b [ false ↦ None | true ↦ narrow_call n l f ]))
  by_test l f false e h = not_left (h ∙ ap (tested l f) e)
  by_test l f true e h = by_width l f (wide_post (bound_at n l f) l.goal) refl (h ∙ ap (tested l f) e)

  by_match : (l : Link) (o : Option Match) → match_at n l c.pairs ≡ o → raws n (ByCall c) ≡ with_match l (match_at n l c.pairs) → LeavesRaws n (ByCall c) (with_goal n (goal_by n l o))
  by_match l None e h = not_left (h ∙ ap (with_match l) e)
  by_match l (Some f) e h = by_test l f (is_callable n l f) refl (h ∙ ap (with_match l) e)

  pub no_link : slice_get n.links c.link ≡ None → LeavesRaws n (ByCall c) None
  no_link e = not_left (ap with_link e)

  pub called_leaves : (l : Link) (o : Option Goal) (r : Raws) → slice_get n.links c.link ≡ Some l → o ≡ goal_by n l (match_at n l c.pairs) → r ≡ with_goal n o → LeavesRaws n (ByCall c) r
  called_leaves l o r at d h = rw (h, d) (by_match l (match_at n l c.pairs) refl (ap with_link at))

-- ---- what the node keeps of its companions

module _ (n : Node) (k : KeepsNode n) where
  abbrev FitsHere : Goal → Type 0
  FitsHere g = IsTrue (insts_fit n.preds g)

  module _ (i : ℕ) (l : Link) (at : slice_get n.links i ≡ Some l) where
    passes : (p : Link → Bool) → IsTrue (list_all p n.links) → IsTrue (p l)
    passes p h = subst (λ (o : Option Link). IfSome o (λ m. IsTrue (p m))) at (list_all-slice_get p n.links i h)

    link_fits : FitsHere l.goal
    link_fits = passes (λ (m : Link). insts_fit n.preds m.goal) k.linked.goals_fit

    pub few_left : length l.goal.post.chunks ≤ 16
    few_left =
        (goal_of_node (record { preds = n.preds; goal = l.goal; links = [] })
        (passes (λ (m : Link). is_within_limits (record { preds = n.preds; goal = m.goal; links = [] })) k.linked.goals_within)).post_chunks

    pub as_long : length l.own ≡ length l.tuple
    as_long = eqb-true (length l.own) (length l.tuple) (passes (λ (m : Link). length m.own == length m.tuple) k.linked.own_as_long)

    after_fits : (f : Match) → FitsHere (after_call n l f).goal
    after_fits f =
        let w : IsNode n = record { within = k.within; raw = record { fits = k.fits; linked = k.linked } } in
        insts_fit_from n.preds (after_call n l f).goal (record { pre = called_fits n w l f link_fits; post = (sides_fit n.preds n.goal k.fits).post })

    narrow_fits : (f : Match) (b : Bool) → IfSome (option_map (with_leaves n.goal f.pairs) (elim b [ true ↦ None | false ↦ Some (call_leaves n l f) ])) FitsHere
    narrow_fits f true = tt
    narrow_fits f false = after_fits f

    test_fits : (f : Match) (b : Bool) → IfSome (elim b [ false ↦ None | true ↦ narrow_call n l f ]) FitsHere
    test_fits f false = tt
    test_fits f true = narrow_fits f (wide_post (bound_at n l f) l.goal)

    match_fits : (o : Option Match) → IfSome (goal_by n l o) FitsHere
    match_fits None = tt
    match_fits (Some f) = test_fits f (is_callable n l f)

    pub call_fits : (o : Option Goal) (m : Option Match) → o ≡ goal_by n l m → (g : Goal) → o ≡ Some g → FitsHere g
    call_fits o m e g d = subst (λ (p : Option Goal). IfSome p FitsHere) (sym e ∙ d) (match_fits m)
