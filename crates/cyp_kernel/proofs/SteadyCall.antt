-- Call leaves what the rules ask.
use Rattle.std.proofs.Common.{◌≡◌, refl, sym, ap, ℕ, suc, ◌≤◌, arith, Bool, true, false, not, ◌&&◌, ◌==◌, List, [], ◌∷◌, ◌++◌, IfSome, Option, Some, None, filter, flat_map, map, subst}
use Rattle.std.specs.List.{AllByRecursion, list_all, list_any}
use Rattle.std.proofs.lemmas.Bool.{and_from, and_parts, cond_both, false≢true}
use Rattle.cyp_goal.proofs.EachVar.{Each, first, second}
use Rattle.cyp_goal.proofs.Fits.{ImagesFit, chunk_fits-apply, lits_fit-apply}
use Rattle.cyp_goal.proofs.LinksFit.{FitsPost, sides_fit}
use Rattle.cyp_goal.proofs.Live.{in_among}
use Rattle.cyp_goal.specs.Raw.{arg_fits, goal_fits, images_fit, set_fits, term_fits}
use Rattle.cyp_heap.specs.Chunks.{apply_chunk, arg_vars, card_vars, chunk_vars, chunks_vars, insts}
use Rattle.cyp_heap.specs.Goals.{goal_vars}
use Rattle.cyp_heap.specs.declared.chunk.Chunk.{Chunk}
use Rattle.cyp_heap.specs.declared.chunk.Chunk.TheVariants.{Block, Cell, Inst}
use Rattle.cyp_heap.specs.declared.goal.Goal.{Goal}
use Rattle.cyp_heap.specs.declared.goal.Link.{Link}
use Rattle.cyp_heap.specs.declared.goal.Node.{Node}
use Rattle.cyp_heap.specs.declared.pred.Preds.{Preds}
use Rattle.cyp_kernel.proofs.AgreeVars.{chunk_sorted, is_number_var, lit_sorted}
use Rattle.cyp_kernel.proofs.AppliedVars.{Brings, chunk_each, image_base, joined, lits_each}
use Rattle.cyp_kernel.proofs.MatchVars.{BoundOf, Covers, HasImage, ImagesHave, bound_int, bound_same, bound_set, bound_then, int_has, match_has, set_has}
use Rattle.cyp_kernel.proofs.NewNumber.{int_var}
use Rattle.cyp_kernel.proofs.SteadyFlat.{AreSettled, lits_and, one, same_program}
use Rattle.cyp_kernel.proofs.SteadyNodes.{ChunkClear, Clear, CompanionSteady, IsSettled, LinkClear, each_both, fresh_clear, new_clear, settled_node}
use Rattle.cyp_kernel.proofs.SteadyUnfold.{each_weaker}
use Rattle.cyp_kernel.proofs.UnfoldParams.{set_numbered}
use Rattle.cyp_kernel.proofs.UnfoldVars.{ChunkHas, ChunkPlain, LitHas, NewHave, SetHas, TermHas, one_var, plain_goes, self, up}
use Rattle.cyp_kernel.specs.SteadyLaws.{IsSteadyNode}
use Rattle.cyp_pred.specs.Unfold.{card_var}
use Rattle.cyp_pred.specs.declared.unfolded.Next.{Next}
use Rattle.cyp_step.proofs.ChunkLists.{Every-put_all}
use Rattle.cyp_step.proofs.RawNodes.{by_option, by_test}
use Rattle.cyp_step.specs.Calling.{after_call, chunks_at, chunks_beside, is_callable, next_tag, raw_call, with_exist, with_new_cards}
use Rattle.cyp_step.specs.Changes.{next_of, pre_of}
use Rattle.cyp_term.proofs.Equality.{Decides-var_eq}
use Rattle.cyp_term.proofs.Lists.{Among, Among-left, Among-right, filter_in}
use Rattle.cyp_term.proofs.Repeats.{without_repeats_in}
use Rattle.cyp_term.specs.Terms.{apply_lit, image_or_self, int_image, is_set_var, lit_vars, lits_vars, set_image, set_var, set_vars, term_vars, var_eq, var_in, var_term}
use Rattle.cyp_term.specs.declared.lit.Lit.{Lit}
use Rattle.cyp_term.specs.declared.lit.SetTerm.{SetTerm}
use Rattle.cyp_term.specs.declared.subst.IntBind.{IntBind}
use Rattle.cyp_term.specs.declared.subst.SetBind.{SetBind}
use Rattle.cyp_term.specs.declared.subst.Subst.{Subst}
use Rattle.cyp_term.specs.declared.term.Term.{Term}
use Rattle.cyp_term.specs.declared.term.Var.{Var}
use Rattle.cyp_unify.specs.Matches.{add_int, add_set, match_at, to_bind}
use Rattle.cyp_unify.specs.declared.found.Match.{Match}

-- ---- new variables for existentials

module _ (K : Var → Type 0) where
  int_after : (next : Next) → NewHave K next → NewHave K (record next { ints = suc next.ints })
  int_after next new = record { ints = λ k l. new.ints k (less next.ints k l); sets = new.sets; cards = new.cards }
    where
      less : (m k : ℕ) → suc m ≤ k → m ≤ k
      less m k l = omega arith

  set_after : (next : Next) → NewHave K next → NewHave K (record next { sets = suc next.sets })
  set_after next new = record { ints = new.ints; sets = λ k l. new.sets k (less next.sets k l); cards = new.cards }
    where
      less : (m k : ℕ) → suc m ≤ k → m ≤ k
      less m k l = omega arith

  exist_bound : (next : Next) (vs : List Var) (by : Subst) → NewHave K next → ImagesHave K by → BoundOf K by vs (with_exist next vs by)
  exist_bound next [] by new h = bound_same K by h
  exist_bound next (v ∷ vs) by new h =
      by_test (is_set_var v)
      (λ e. rw (e, with_exist)
      (let u : SetTerm = set_var (set_numbered next.sets) in
      let q = bound_set K by v u e h (refl, one_var K (set_numbered next.sets) (new.sets next.sets (self next.sets))) in
      bound_then K by (add_set by v u) (with_exist (record next { sets = suc next.sets }) vs (add_set by v u)) v vs q
      (exist_bound (record next { sets = suc next.sets }) vs (add_set by v u) (set_after next new) q.has)))
      (λ e. rw (e, with_exist)
      (let t : Term = var_term (int_var next.ints) in
      let q = bound_int K by v t e h (refl, one_var K (int_var next.ints) (new.ints next.ints (self next.ints))) in
      bound_then K by (add_int by v t) (with_exist (record next { ints = suc next.ints }) vs (add_int by v t)) v vs q
      (exist_bound (record next { ints = suc next.ints }) vs (add_int by v t) (int_after next new) q.has)))

  new_cards_have : (next : Next) → NewHave K next → (tag k : ℕ) (cs : List Chunk) → next.cards ≤ k → AllByRecursion (ChunkHas K) cs → AllByRecursion (ChunkHas K) (with_new_cards tag k cs)
  new_cards_have next new tag k [] l h = tt
  new_cards_have next new tag k (Inst i ∷ cs) l h =
      let both = and_parts (list_all (arg_fits is_number_var is_set_var) i.args) (list_all is_number_var (card_vars i.card)) h.0.0 in (
        (
          and_from (list_all (arg_fits is_number_var is_set_var) i.args) (list_all is_number_var (card_var k ∷ [])) both.0 refl,
          joined K (flat_map arg_vars i.args) (card_var k ∷ []) (first K (flat_map arg_vars i.args) (card_vars i.card) h.0.1) (one_var K (card_var k) (new.cards k l)),
        ),
        new_cards_have next new tag (suc k) cs (up next.cards k l) h.1,
      )
  new_cards_have next new tag k (Block b ∷ cs) l h = (h.0, new_cards_have next new tag k cs l h.1)
  new_cards_have next new tag k (Cell c ∷ cs) l h = (h.0, new_cards_have next new tag k cs l h.1)

  -- ---- literals and chunks under bindings

  module _ (by : Subst) (has : ImagesHave K by) where
    fit : ImagesFit is_number_var is_set_var by
    fit = record {
      ints = λ v to _ e. (subst (λ (o : Option Term). IfSome o (TermHas K)) e (int_has K by.ints v has.ints)).0;
      sets = λ v to _ e. (subst (λ (o : Option SetTerm). IfSome o (SetHas K)) e (set_has K by.sets v has.sets)).0;
    }

    int_at : (v : Var) (b : Bool) → not b ≡ true → HasImage b by v → Each K (image_base v (int_image by.ints v))
    int_at v true h c = absurd (false≢true h)
    int_at v false h c =
        subst (λ (o : Option Term). Each K (image_base v o)) (sym c.1) (subst (λ (o : Option Term). IfSome o (TermHas K)) c.1 (int_has K by.ints v has.ints)).1

    set_at : (v : Var) (b : Bool) → b ≡ true → HasImage b by v → Each K (set_vars (image_or_self v (set_image by.sets v)))
    set_at v false h c = absurd (false≢true h)
    set_at v true h c =
        subst (λ (o : Option SetTerm). Each K (set_vars (image_or_self v o))) (sym c.1) (subst (λ (o : Option SetTerm). IfSome o (SetHas K)) c.1 (set_has K by.sets v has.sets)).1

    brings : Brings by is_number_var is_set_var (Covers by) K
    brings = record { ints = λ v h c. int_at v (is_set_var v) h c; sets = λ v h c. set_at v (is_set_var v) h c }

    lits_have : (ls : List Lit) → list_all lit_sorted ls ≡ true → Each (Covers by) (lits_vars ls) → AllByRecursion (LitHas K) (map (apply_lit by) ls)
    lits_have ls h c =
        each_both lit_sorted lit_vars K (map (apply_lit by) ls) (lits_fit-apply is_number_var is_set_var by fit ls h) (lits_each by is_number_var is_set_var (Covers by) K brings ls h c)

    chunks_have : (cs : List Chunk) → AllByRecursion ChunkPlain cs → list_all chunk_sorted cs ≡ true → Each (Covers by) (chunks_vars cs) → AllByRecursion (ChunkHas K) (map (apply_chunk by) cs)
    chunks_have [] plain h c = tt
    chunks_have (d ∷ ds) plain h c =
        let both = and_parts (chunk_sorted d) (list_all chunk_sorted ds) h in (
          (
            chunk_fits-apply is_number_var is_set_var by fit d both.0,
            chunk_each by is_number_var is_set_var (Covers by) K brings d (plain_goes by is_number_var is_set_var (Covers by) K brings d plain.0) both.0 (first (Covers by) (chunk_vars d) (chunks_vars ds) c),
          ),
          chunks_have ds plain.1 both.1 (second (Covers by) (chunk_vars d) (chunks_vars ds) c),
        )

-- ---- the companion

-- what is known of a companion that is called
pub record CompanionRight (n : Node) (l : Link) : Type 0 where
  pub clear : LinkClear n.goal.exist l
  pub steady : CompanionSteady n.preds l

post_plain : (preds : Preds) (c : Chunk) → FitsPost preds c → ChunkPlain c
post_plain preds (Inst i) h = h.1
post_plain preds (Block b) h = tt
post_plain preds (Cell c) h = tt

beside_clear : (P : Chunk → Type 0) (k : ℕ) (ks : List ℕ) (cs : List Chunk) → AllByRecursion P cs → AllByRecursion P (chunks_beside k ks cs)
beside_clear P k ks [] h = tt
beside_clear P k ks (c ∷ cs) h =
    cond_both (list_any (λ j. j == k) ks) (chunks_beside (suc k) ks cs) (c ∷ chunks_beside (suc k) ks cs) (AllByRecursion P)
    (λ e. beside_clear P (suc k) ks cs h.1) (λ e. (h.0, beside_clear P (suc k) ks cs h.1))

module _ (n : Node) (w : IsSteadyNode n) where
  abbrev exist : List Var
  exist = n.goal.exist

  abbrev s : IsSettled n
  s = settled_node n w

  new : NewHave (Clear exist) (next_of n)
  new = record { ints = λ k l. new_clear n w k l; sets = λ k l. fresh_clear n w (set_numbered k) l; cards = λ k l. fresh_clear n w (card_var k) l }

  images_clear : (m : Subst) → images_fit is_number_var is_set_var m ≡ true → Each (Clear exist) (flat_map (λ (b : IntBind). term_vars b.to) m.ints ++ flat_map (λ (b : SetBind). set_vars b.to) m.sets)
      → ImagesHave (Clear exist) m
  images_clear m h e =
      let both = and_parts (list_all (λ (b : IntBind). term_fits is_number_var b.to) m.ints) (list_all (λ (b : SetBind). set_fits is_number_var is_set_var b.to) m.sets) h in
      let us : List Var = flat_map (λ (b : IntBind). term_vars b.to) m.ints in
      let ws : List Var = flat_map (λ (b : SetBind). set_vars b.to) m.sets in
      record {
        ints = each_both (λ (b : IntBind). term_fits is_number_var b.to) (λ (b : IntBind). term_vars b.to) (Clear exist) m.ints both.0 (first (Clear exist) us ws e);
        sets = each_both (λ (b : SetBind). set_fits is_number_var is_set_var b.to) (λ (b : SetBind). set_vars b.to) (Clear exist) m.sets both.1 (second (Clear exist) us ws e);
      }

  -- each variable of the companion's goal has an image
  all_covered : (l : Link) (f : Match) (to : Subst) → BoundOf (Clear exist) f.by l.goal.exist to → ((v : Var) → Among v (to_bind l) → Covers f.by v) → (v : Var) → Among v (goal_vars l.goal) → Covers to v
  all_covered l f to q m v k = at (var_in v l.goal.exist) refl
    where
      at : (b : Bool) → var_in v l.goal.exist ≡ b → Covers to v
      at true e = q.covers v (in_among v l.goal.exist e)
      at false e =
          let vs : List Var = filter (λ v. not (var_in v l.goal.exist)) (goal_vars l.goal) in
          let own : List Var = flat_map term_vars l.own in
          q.extends.covers v (m v (without_repeats_in var_eq Decides-var_eq v (vs ++ own) (Among-left v vs own (filter_in (λ v. not (var_in v l.goal.exist)) v (goal_vars l.goal) k (ap not e)))))

  called : (l : Link) (f : Match) (ks : List ℕ) → CompanionRight n l → match_at n l ks ≡ Some f → AreSettled (Some (after_call n l f ∷ []))
  called l f ks h e =
      let K : Var → Type 0 = Clear exist in
      let g : Goal = l.goal in
      let next : Next = next_of n in
      let by : Subst = with_exist next g.exist f.by in
      let tag : ℕ = next_tag (insts (chunks_at (pre_of n) f.pairs)) in
      let map_fits = (and_parts (list_all (term_fits is_number_var) l.tuple) (images_fit is_number_var is_set_var l.map) h.clear.0).1 in
      let m = match_has K n l ks f s.pre (images_clear l.map map_fits h.clear.1) e in
      let q : BoundOf K f.by g.exist by = exist_bound K next g.exist f.by new m.0 in
      let covered = all_covered l f by q m.1 in
      let sorted = and_parts (list_all lit_sorted g.pure_pre && list_all chunk_sorted g.pre.chunks && list_all lit_sorted g.pure_post) (list_all chunk_sorted g.post.chunks) (and_parts (goal_fits is_number_var is_set_var g) true h.steady.sorted).0 in
      let sorted_lits = (and_parts (list_all lit_sorted g.pure_pre && list_all chunk_sorted g.pre.chunks) (list_all lit_sorted g.pure_post) sorted.0).1 in
      let before : List Var = g.program ++ chunks_vars g.pre.chunks in
      let chunks : List Var = chunks_vars g.post.chunks in
      let pure : List Var = lits_vars g.pure_pre in
      let lits : List Var = lits_vars g.pure_post in
      let plain = each_weaker (FitsPost n.preds) ChunkPlain (post_plain n.preds) g.post.chunks (sides_fit n.preds g h.steady.fits).post in
      one n w _ refl (same_program n w)
      (lits_and n w (map (apply_lit by) g.pure_post) (lits_have K by q.has g.pure_post sorted_lits (λ v k. covered v (Among-right v (before ++ chunks ++ pure) lits k))))
      (Every-put_all (ChunkClear exist) (chunks_beside 0 f.pairs (pre_of n)) (with_new_cards tag next.cards (map (apply_chunk by) g.post.chunks))
      (new_cards_have K next new tag next.cards (map (apply_chunk by) g.post.chunks) (self next.cards)
      (chunks_have K by q.has g.post.chunks plain sorted.1 (λ v k. covered v (Among-left v (before ++ chunks ++ pure) lits (Among-left v (before ++ chunks) pure (Among-right v before chunks k))))))
      (beside_clear (ChunkClear exist) 0 f.pairs (pre_of n) s.pre))
      s.pure_post s.post

  pub call_steady : (ks : List ℕ) (o : Option Link) → IfSome o (CompanionRight n) → AreSettled (raw_call n ks o)
  call_steady ks None h = tt
  call_steady ks (Some l) h =
      by_option (match_at n l ks) (λ e. rw (e, raw_call) tt)
      (λ f e. rw (e, raw_call) (by_test (is_callable n l f) (λ d. rw d (called l f ks h e)) (λ d. rw d tt)))
