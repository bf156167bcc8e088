-- After a call the premise's precondition holds.
use Rattle.std.proofs.Common.{◌≡◌, refl, sym, ap, ◌∙◌, ℕ, suc, ◌==◌, Bool, true, false, not, ◌&&◌, List, [], ◌∷◌, ◌++◌, append-nil, flat_map, map, filter, Some, None, inl, inr, subst}
use Rattle.std.specs.Prelude.{slice_get}
use Rattle.std.specs.List.{list_any}
use Rattle.std.proofs.lemmas.Bool.{and_from, cond_both, both_ways, false≢true}
use Rattle.cyp_goal.proofs.EachVar.{Each, EachPart, each_part}
use Rattle.cyp_goal.specs.Raw.{set_fits}
use Rattle.cyp_heap.proofs.Applied.{apply_chunks_law}
use Rattle.cyp_heap.specs.Assertions.{SideHolds}
use Rattle.cyp_heap.specs.Chunks.{apply_chunk, chunk_vars, chunks_vars, put_all}
use Rattle.cyp_heap.specs.Goals.{goal_vars}
use Rattle.cyp_heap.specs.Instances.{InstanceHolds, Instances}
use Rattle.cyp_heap.specs.Stores.{IsUnion, Store}
use Rattle.cyp_heap.specs.declared.chunk.Arg.TheVariants.{Set as SetArg}
use Rattle.cyp_heap.specs.declared.chunk.Chunk.{Chunk}
use Rattle.cyp_heap.specs.declared.chunk.Chunk.TheVariants.{Block, Cell, Inst}
use Rattle.cyp_heap.specs.declared.goal.Goal.{Goal}
use Rattle.cyp_heap.specs.declared.goal.Link.{Link}
use Rattle.cyp_heap.specs.declared.goal.Node.{Node}
use Rattle.cyp_kernel.proofs.AgreeVars.{AgreeAt, chunk_sorted, is_number_var, lits_by_vars, same_by_vars, side_by_vars, value_same}
use Rattle.cyp_kernel.proofs.AppliedSides.{lits_applied}
use Rattle.cyp_kernel.proofs.BoundImages.{BoundBy, GoodBinds, all_are_bound, all_good, found_good}
use Rattle.cyp_kernel.proofs.BySort.{agree_from, number_at, same_members}
use Rattle.cyp_kernel.proofs.ChunkOrder.{AllHold, put_all_holds}
use Rattle.cyp_kernel.proofs.ForgetVars.{agree_sym, among_from_in, in_from_among}
use Rattle.cyp_kernel.proofs.FoundImages.{ExistFree, link_map_good, rights_good}
use Rattle.cyp_kernel.proofs.FoundMatch.{found}
use Rattle.cyp_kernel.proofs.FreePositions.{positions_free}
use Rattle.cyp_kernel.proofs.GoalFacts.{true_join}
use Rattle.cyp_kernel.proofs.NewExist.{IsUnbound, after_values, exist_agrees, exist_extends, listed, new_are}
use Rattle.cyp_kernel.proofs.NewNumber.{old_parts}
use Rattle.cyp_kernel.proofs.OldVars.{IsOld, old_vars}
use Rattle.cyp_kernel.proofs.Opened.{number_old, opened_old}
use Rattle.cyp_kernel.proofs.OpenedHolds.{cards_are, cards_tagged, tagged}
use Rattle.cyp_kernel.proofs.SteadyParts.{pre_apart, sorted_goal}
use Rattle.cyp_kernel.specs.Correct.{AgreeBy, unlinked}
use Rattle.cyp_kernel.specs.Steady.{IsSteady}
use Rattle.cyp_pred.specs.Unfold.{card_var, with_tags}
use Rattle.cyp_pred.specs.declared.unfolded.Next.{Next}
use Rattle.cyp_step.specs.Calling.{chunks_beside, with_exist, with_new_cards}
use Rattle.cyp_step.specs.Changes.{next_of, pre_of}
use Rattle.cyp_term.proofs.Equality.{Decides-var_eq}
use Rattle.cyp_term.proofs.Lists.{Among, Among-left, Among-right, each_at, each_from, filter_in, flat_in, flat_out}
use Rattle.cyp_term.proofs.Repeats.{without_repeats_in}
use Rattle.cyp_term.specs.Meaning.{AllTrue, Assignment, SameMembers, image_members, image_value, int_in, set_value, under}
use Rattle.cyp_term.specs.Terms.{apply_lit, is_set_var, lits_vars, set_vars, sort_eq, term_vars, var_eq, var_in}
use Rattle.cyp_term.specs.declared.lit.SetTerm.{SetTerm}
use Rattle.cyp_term.specs.declared.subst.Subst.{Subst}
use Rattle.cyp_term.specs.declared.term.Sort.TheVariants.{Set}
use Rattle.cyp_term.specs.declared.term.Var.{Var}
use Rattle.cyp_unify.specs.Matches.{match_at, no_walk, to_bind, walk}
use Rattle.cyp_unify.specs.declared.found.Match.{Match}

-- ---- sets, tags and chunks beside

set_same : (s u : Assignment) (x : SetTerm) → set_fits is_number_var is_set_var x ≡ true → Each (AgreeAt s u) (set_vars x) → SameMembers (set_value s x) (set_value u x)
set_same s u x f e =
    let c : Chunk = Inst (record { pred = 0; args = SetArg x ∷ []; card = None; tag = 0 }) in
    (same_by_vars s u c (and_from (set_fits is_number_var is_set_var x && true) true (and_from (set_fits is_number_var is_set_var x) true f refl) refl)
    (λ v k. e v (subst (Among v) (append-nil (set_vars x ++ []) ∙ append-nil (set_vars x)) k))).1.0

same_tags : (a : Var) (tag k : ℕ) (cs : List Chunk) → with_tags (Some a) tag k cs ≡ with_new_cards tag k cs
same_tags a tag k [] = refl
same_tags a tag k (Inst i ∷ cs) = ap (λ ds. Inst (record { pred = i.pred; args = i.args; card = Some (card_var k); tag = tag }) ∷ ds) (same_tags a tag (suc k) cs)
same_tags a tag k (Block b ∷ cs) = ap (λ ds. Block b ∷ ds) (same_tags a tag k cs)
same_tags a tag k (Cell c ∷ cs) = ap (λ ds. Cell c ∷ ds) (same_tags a tag k cs)

pub beside_among : (j : ℕ) (ks : List ℕ) (cs : List Chunk) (x : Chunk) → Among x (chunks_beside j ks cs) → Among x cs
beside_among j ks [] x k = k
beside_among j ks (c ∷ cs) x k =
    cond_both (list_any (λ i. i == j) ks) (chunks_beside (suc j) ks cs) (c ∷ chunks_beside (suc j) ks cs) (λ (xs : List Chunk). Among x xs → Among x (c ∷ cs))
    (λ e m. inr (beside_among (suc j) ks cs x m)) (λ e m. later (beside_among (suc j) ks cs x) m) k
  where
    later : (Among x (chunks_beside (suc j) ks cs) → Among x cs) → Among x (c ∷ chunks_beside (suc j) ks cs) → Among x (c ∷ cs)
    later more (inl p) = inl p
    later more (inr m) = inr (more m)

-- ---- the node and its companion

module _ (n : Node) (steady : IsSteady n) (i : ℕ) (l : Link) (at : slice_get n.links i ≡ Some l) (inner : IsSteady (unlinked n.preds l.goal))
    (free : ExistFree l.map l.goal.exist ≡ true) (ks : List ℕ) (f : Match) (match : match_at n l ks ≡ Some f) where
  abbrev pub inst : Instances
  inst = InstanceHolds n.preds

  abbrev pub next : Next
  next = next_of n

  abbrev pub exist : List Var
  exist = l.goal.exist

  abbrev pub outside : List Var
  outside = filter (λ v. not (var_in v exist)) (goal_vars l.goal)

  bound_outside : (v : Var) → Among v (goal_vars l.goal) → var_in v exist ≡ false → BoundBy f.by v (is_set_var v)
  bound_outside v k e =
      all_are_bound l.map (walk exist no_walk (found n l ks f match).steps).by f.by (to_bind l) (found n l ks f match).bound v
      (without_repeats_in var_eq Decides-var_eq v (outside ++ flat_map term_vars l.own)
      (Among-left v outside (flat_map term_vars l.own) (filter_in (λ v. not (var_in v exist)) v (goal_vars l.goal) k (ap not e))))

  binds_good : GoodBinds (IsOld next) exist f.by
  binds_good =
      let o = found n l ks f match in
      let old = old_parts n in
      all_good (IsOld next) exist l.map (link_map_good (IsOld next) n steady old.links i l at free) (walk exist no_walk o.steps).by f.by (to_bind l)
      (found_good (IsOld next) exist o.steps (positions_free exist (pre_of n) l.goal.pre.chunks ks o.steps o.paired (pre_apart (unlinked n.preds l.goal) inner))
      (rights_good (IsOld next) (pre_of n) l.goal.pre.chunks ks o.steps o.paired (sorted_goal n steady).pre old.pre))
      o.bound

  unbound : (v : Var) → Among v exist → IsUnbound f.by v
  unbound v k =
      let there = in_from_among v exist k in
      record { ints = λ t e. both_ways (var_in v exist) (binds_good.ints v t e).1 there; sets = λ u e. both_ways (var_in v exist) (binds_good.sets v u e).1 there }

  abbrev pub by : Subst
  by = with_exist next exist f.by

  -- ---- the values after the call

  module _ (s t : Assignment) (ms : List ℕ) (agree : (v : Var) → var_in v exist ≡ false → AgreeBy v.sort (under f.by s) t v) where
    abbrev pub values : Assignment
    values = after_values next ms s t exist

    old_agree : (v : Var) → IsOld next v → AgreeAt s values v
    old_agree v h = opened_old next 0 0 ms s (listed t exist) v h

    outside_agrees : (v : Var) (b : Bool) → sort_eq v.sort Set ≡ b → BoundBy f.by v b → AgreeBy v.sort (under f.by s) t v → AgreeBy v.sort (under by values) t v
    outside_agrees v false e k a =
        let good = (binds_good.ints v k.0 k.1).0 in
        let kept = (exist_extends next exist f.by).ints v k.0 k.1 in
        agree_from v.sort (under by values) t v
        (λ p. ap (image_value values v) kept ∙ sym (value_same s values k.0 good.0 (λ x m. old_agree x (good.1 x m))) ∙ sym (ap (image_value s v) k.1) ∙ number_at v.sort (under f.by s) t v p a)
        (λ p. absurd (both_ways (sort_eq v.sort Set) e p))
    outside_agrees v true e k a =
        let good = (binds_good.sets v k.0 k.1).0 in
        let kept = (exist_extends next exist f.by).sets v k.0 k.1 in
        agree_from v.sort (under by values) t v
        (λ p. absurd (false≢true (ap not (sym e) ∙ p)))
        (λ p z. ap (int_in z) (ap (image_members values v) kept) ∙ sym (set_same s values k.0 good.0 (λ x m. old_agree x (good.1 x m)) z) ∙ sym (ap (int_in z) (ap (image_members s v) k.1))
        ∙ same_members (under f.by s) t v p a z)

    inner_agrees : (v : Var) → Among v (goal_vars l.goal) → AgreeAt (under by values) t v
    inner_agrees v k = by_test (var_in v exist) refl
      where
        by_test : (b : Bool) → var_in v exist ≡ b → AgreeAt (under by values) t v
        by_test true e = exist_agrees values t next exist f.by inner.exist_differs unbound (new_are next ms s t exist) v (among_from_in v exist e)
        by_test false e = outside_agrees v (is_set_var v) refl (bound_outside v k e) (agree v e)

    -- ---- the premise's precondition

    -- what the companion leaves
    abbrev pub left : ℕ → List Chunk
    left tag = with_new_cards tag next.cards (map (apply_chunk by) l.goal.post.chunks)

    new_side : (tag : ℕ) (g : Store) → SideHolds n.preds t l.goal.pure_post l.goal.post.chunks g ms → AllTrue values (map (apply_lit by) l.goal.pure_post) × AllHold inst values (left tag) g
    new_side tag g side =
        let d : Goal = l.goal in
        let sorted = sorted_goal (unlinked n.preds d) inner in
        let cs : List Chunk = map (apply_chunk by) d.post.chunks in
        let agrees = λ (v : Var) (k : Among v (goal_vars d)). agree_sym v.sort (under by values) t v (inner_agrees v k) in
        let here = side_by_vars t (under by values) n.preds d.pure_post d.post.chunks g ms sorted.pure_post sorted.post
        (λ v k. agrees v (Among-right v (d.program ++ chunks_vars d.pre.chunks ++ chunks_vars d.post.chunks ++ lits_vars d.pure_pre) (lits_vars d.pure_post) k))
        (λ v k. agrees v (Among-left v (d.program ++ chunks_vars d.pre.chunks ++ chunks_vars d.post.chunks ++ lits_vars d.pure_pre) (lits_vars d.pure_post)
        (Among-left v (d.program ++ chunks_vars d.pre.chunks ++ chunks_vars d.post.chunks) (lits_vars d.pure_pre) (Among-right v (d.program ++ chunks_vars d.pre.chunks) (chunks_vars d.post.chunks) k)))) side in
        let chunks = (apply_chunks_law n.preds by values d.post.chunks g ms).1 here.1 in (
          (lits_applied by values d.pure_post).0 here.0,
          subst (λ (xs : List Chunk). AllHold inst values xs g) (same_tags (card_var 0) tag next.cards cs)
              (ms, tagged inst values (Some (card_var 0)) tag next.cards cs g ms chunks, cards_tagged inst values (card_var 0) tag next.cards cs g ms chunks (cards_are next 0 0 ms s (listed t exist))),
        )

    old_side : (rest : Store) → AllHold inst s (chunks_beside 0 ks (pre_of n)) rest → AllHold inst values (chunks_beside 0 ks (pre_of n)) rest
    old_side rest a =
        let old = old_parts n in
        let beside : List Chunk = chunks_beside 0 ks (pre_of n) in
        let side = side_by_vars s values n.preds [] beside rest a.0 refl
        (each_from chunk_sorted beside (λ x y. each_at chunk_sorted x (pre_of n) (sorted_goal n steady).pre (beside_among 0 ks (pre_of n) x y)))
        (λ v x. absurd x)
        (λ v x. let c = flat_out chunk_vars v beside x in old_agree v (old.pre v (flat_in chunk_vars v c.0 (pre_of n) (beside_among 0 ks (pre_of n) c.0 c.1) c.2)))
        (tt, a.1, a.2) in
        (a.0, side.1, side.2)

    -- what was kept and what the companion leaves make up the premise's precondition
    pub after_holds : (tag : ℕ) (g large rest : Store) → SideHolds n.preds t l.goal.pure_post l.goal.post.chunks g ms → AllHold inst s (chunks_beside 0 ks (pre_of n)) rest → IsUnion large g rest
        → AllTrue s n.goal.pure_pre
        → (hs : List ℕ) × SideHolds n.preds values (n.goal.pure_pre ++ map (apply_lit by) l.goal.pure_post) (put_all (chunks_beside 0 ks (pre_of n)) (left tag)) large hs
    after_holds tag g large rest side others union known =
        let new = new_side tag g side in
        let whole = put_all_holds inst values (chunks_beside 0 ks (pre_of n)) (left tag) large g rest union new.1 (old_side rest others) in
        let old = old_parts n in
        let kept = lits_by_vars s values n.goal.pure_pre (sorted_goal n steady).pure_pre (λ v k. old_agree v (old.pure_pre v k)) known in
        (whole.0, (true_join values n.goal.pure_pre (map (apply_lit by) l.goal.pure_post) kept new.0, whole.1, whole.2))

    pub program_kept : (v : Var) → var_in v n.goal.program ≡ true → s.number v ≡ values.number v
    program_kept v e = number_old next 0 0 ms s (listed t exist) v ((old_parts n).program v (among_from_in v n.goal.program e))

    pub parts_kept : EachPart (AgreeAt s values) n
    parts_kept = each_part (AgreeAt s values) n (λ v x. old_agree v (old_vars n v x))
