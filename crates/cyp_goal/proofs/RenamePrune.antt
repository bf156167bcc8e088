-- Pruning and renaming may change places.
use Rattle.std.proofs.Common.{◌≡◌, ◌∙◌, [], ◌∷◌, ◌++◌, ◌==◌, List, true, cond, not, map, filter, length, ℕ, zero, suc, refl, ap, ap₂}
use Rattle.std.specs.List.{list_all, list_any}
use Rattle.std.proofs.lemmas.List.{length-map}
use Rattle.cyp_goal.specs.Pruning.{is_kept, live_vars, only_vars, prune, spread, spread_times, touches}
use Rattle.cyp_heap.specs.Chunks.{chunks_vars}
use Rattle.cyp_heap.specs.Goals.{tuple_vars}
use Rattle.cyp_heap.specs.declared.goal.Goal.{Goal}
use Rattle.cyp_heap.specs.declared.goal.Link.{Link}
use Rattle.cyp_heap.specs.declared.goal.Node.{Node}
use Rattle.cyp_term.specs.Terms.{lit_vars, lits_vars, set_vars, term_vars, var_eq, var_in, with_all_new, without_repeats}
use Rattle.cyp_term.specs.declared.lit.Lit.{Lit}
use Rattle.cyp_term.specs.declared.subst.IntBind.{IntBind}
use Rattle.cyp_term.specs.declared.subst.SetBind.{SetBind}
use Rattle.cyp_term.specs.declared.subst.Subst.{Subst}
use Rattle.cyp_term.specs.declared.term.Var.{Var}
use Rattle.cyp_goal.proofs.Maps.{at_cond, filter-map, joined, list_all-map, list_any-map, map_both, with_all_new-map, without_repeats-map}
use Rattle.cyp_goal.proofs.Rename.{IsRenaming, rename_chunk, rename_images, rename_link, rename_lit, rename_node}
use Rattle.cyp_goal.proofs.RenameVars.{chunks_vars-rename, lit_vars-rename, lits_vars-rename, rename_int_bind, rename_set_bind, set_vars-rename, term_vars-rename, tuple_vars-rename, var_in-rename}

module _ (r : Var → Var) (is : IsRenaming r) where
  touches-rename : (live : List Var) (l : Lit) → touches (map r live) (rename_lit r l) ≡ touches live l
  touches-rename live l =
      ap (list_any (λ v. var_in v (map r live))) (lit_vars-rename r l)
      ∙ list_any-map r (λ v. var_in v live) (λ v. var_in v (map r live)) (λ v. var_in-rename r is v live) (lit_vars l)

  spread-rename : (ls : List Lit) (live : List Var) → spread (map (rename_lit r) ls) (map r live) ≡ map r (spread ls live)
  spread-rename [] live = refl
  spread-rename (l ∷ ls) live =
      ap (spread (map (rename_lit r) ls)) (
      ap₂ (λ b vs. cond b vs (map r live)) (touches-rename live l)
      (ap (with_all_new var_eq (map r live)) (lit_vars-rename r l) ∙ with_all_new-map r var_eq var_eq is.apart live (lit_vars l))
      ∙ at_cond (map r) (touches live l) (with_all_new var_eq live (lit_vars l)) live
      )
      ∙ spread-rename ls (cond (touches live l) (with_all_new var_eq live (lit_vars l)) live)

  spread_times-rename : (k : ℕ) (ls : List Lit) (live : List Var) → spread_times k (map (rename_lit r) ls) (map r live) ≡ map r (spread_times k ls live)
  spread_times-rename zero ls live = refl
  spread_times-rename (suc k) ls live = ap (spread_times k (map (rename_lit r) ls)) (spread-rename ls live) ∙ spread_times-rename k ls (spread ls live)

  is_kept-rename : (live : List Var) (l : Lit) → is_kept (map r live) (rename_lit r l) ≡ is_kept live l
  is_kept-rename live l =
      ap₂ (λ b k. cond b true (k == 0)) (touches-rename live l) (ap length (lit_vars-rename r l) ∙ length-map (lit_vars l) r)

  pub live_vars-rename : (n : Node) → live_vars (rename_node r n) ≡ map r (live_vars n)
  live_vars-rename n =
      let g : Goal = n.goal in
      let start : List Var = g.program ++ chunks_vars g.pre.chunks ++ chunks_vars g.post.chunks ++ lits_vars g.pure_post ++ tuple_vars n.links in
      ap₂ (λ k vs. spread_times k (map (rename_lit r) g.pure_pre) vs) (length-map g.pure_pre (rename_lit r))
      (ap (without_repeats var_eq)
      (joined r (g.program ++ chunks_vars g.pre.chunks ++ chunks_vars g.post.chunks ++ lits_vars g.pure_post) (tuple_vars n.links) _ _
      (joined r (g.program ++ chunks_vars g.pre.chunks ++ chunks_vars g.post.chunks) (lits_vars g.pure_post) _ _
      (joined r (g.program ++ chunks_vars g.pre.chunks) (chunks_vars g.post.chunks) _ _
      (joined r g.program (chunks_vars g.pre.chunks) _ _ refl (chunks_vars-rename r g.pre.chunks))
      (chunks_vars-rename r g.post.chunks))
      (lits_vars-rename r g.pure_post))
      (tuple_vars-rename r n.links))
      ∙ without_repeats-map r var_eq var_eq is.apart start)
      ∙ spread_times-rename (length g.pure_pre) g.pure_pre (without_repeats var_eq start)

  all_in-rename : (vs ws us : List Var) → us ≡ map r ws → list_all (λ v. var_in v (map r vs)) us ≡ list_all (λ v. var_in v vs) ws
  all_in-rename vs ws us e =
      ap (list_all (λ v. var_in v (map r vs))) e ∙ list_all-map r (λ v. var_in v vs) (λ v. var_in v (map r vs)) (λ v. var_in-rename r is v vs) ws

  only_vars-rename : (vs : List Var) (m : Subst) → only_vars (map r vs) (rename_images r m) ≡ rename_images r (only_vars vs m)
  only_vars-rename vs m =
      let ints = filter-map (rename_int_bind r) (λ (b : IntBind). list_all (λ v. var_in v vs) (term_vars b.to)) (λ (b : IntBind). list_all (λ v. var_in v (map r vs)) (term_vars b.to))
      (λ b. all_in-rename vs (term_vars b.to) _ (term_vars-rename r b.to)) m.ints in
      let sets = filter-map (rename_set_bind r) (λ (b : SetBind). list_all (λ v. var_in v vs) (set_vars b.to)) (λ (b : SetBind). list_all (λ v. var_in v (map r vs)) (set_vars b.to))
      (λ b. all_in-rename vs (set_vars b.to) _ (set_vars-rename r b.to)) m.sets in
      λ i. record { ints = ints i; sets = sets i }

  -- a filter by what stands in a list
  in-rename : (us vs ws : List Var) → us ≡ map r vs → filter (λ v. var_in v us) (map r ws) ≡ map r (filter (λ v. var_in v vs) ws)
  in-rename us vs ws e =
      ap (λ (xs : List Var). filter (λ v. var_in v xs) (map r ws)) e
      ∙ filter-map r (λ v. var_in v vs) (λ v. var_in v (map r vs)) (λ v. var_in-rename r is v vs) ws

  out-rename : (us vs ws : List Var) → us ≡ map r vs → filter (λ v. not (var_in v us)) (map r ws) ≡ map r (filter (λ v. not (var_in v vs)) ws)
  out-rename us vs ws e =
      ap (λ (xs : List Var). filter (λ v. not (var_in v xs)) (map r ws)) e
      ∙ filter-map r (λ v. not (var_in v vs)) (λ v. not (var_in v (map r vs))) (λ v. ap not (var_in-rename r is v vs)) ws

  pub prune-rename : (n : Node) → prune (rename_node r n) ≡ rename_node r (prune n)
  prune-rename n =
      let g : Goal = n.goal in
      let live : List Var = live_vars n in
      let pre : List Lit = filter (is_kept live) g.pure_pre in
      let used : List Var = chunks_vars g.pre.chunks ++ chunks_vars g.post.chunks ++ lits_vars pre ++ lits_vars g.pure_post ++ tuple_vars n.links in
      let later : List Var = chunks_vars g.post.chunks ++ lits_vars g.pure_post in
      let program : List Var = filter (λ v. var_in v used) g.program in
      let exist : List Var = filter (λ v. var_in v later) g.exist in
      let dropped : List Var = filter (λ v. not (var_in v program)) g.program ++ filter (λ v. not (var_in v exist)) g.exist in
      let alive : List Var = filter (λ v. not (var_in v dropped)) (live ++ program) in
      let live' = live_vars-rename n in
      let pre' = ap (λ (vs : List Var). filter (is_kept vs) (map (rename_lit r) g.pure_pre)) live' ∙ filter-map (rename_lit r) (is_kept live) (is_kept (map r live)) (is_kept-rename live) g.pure_pre in
      let used' = joined r (chunks_vars g.pre.chunks ++ chunks_vars g.post.chunks ++ lits_vars pre ++ lits_vars g.pure_post) (tuple_vars n.links) _ _
      (joined r (chunks_vars g.pre.chunks ++ chunks_vars g.post.chunks ++ lits_vars pre) (lits_vars g.pure_post) _ _
      (joined r (chunks_vars g.pre.chunks ++ chunks_vars g.post.chunks) (lits_vars pre) _ _
      (joined r (chunks_vars g.pre.chunks) (chunks_vars g.post.chunks) _ _ (chunks_vars-rename r g.pre.chunks) (chunks_vars-rename r g.post.chunks))
      (ap lits_vars pre' ∙ lits_vars-rename r pre))
      (lits_vars-rename r g.pure_post))
      (tuple_vars-rename r n.links) in
      let later' = joined r (chunks_vars g.post.chunks) (lits_vars g.pure_post) _ _ (chunks_vars-rename r g.post.chunks) (lits_vars-rename r g.pure_post) in
      let program' = in-rename _ used g.program used' in
      let exist' = in-rename _ later g.exist later' in
      let dropped' = joined r (filter (λ v. not (var_in v program)) g.program) (filter (λ v. not (var_in v exist)) g.exist) _ _
      (out-rename _ program g.program program') (out-rename _ exist g.exist exist') in
      let alive' = ap (filter (λ v. not (var_in v (filter (λ w. not (var_in w (prune (rename_node r n)).goal.program)) (map r g.program)
      ++ filter (λ w. not (var_in w (prune (rename_node r n)).goal.exist)) (map r g.exist)))))
      (joined r live program _ _ live' program') ∙ out-rename _ dropped (live ++ program) dropped' in
      let links = ap (λ (vs : List Var). map (λ (k : Link). record k { map = only_vars vs k.map }) (map (rename_link r) n.links)) alive'
      ∙ map_both (rename_link r) (λ (k : Link). record k { map = only_vars (map r alive) k.map }) (λ (k : Link). record k { map = only_vars alive k.map }) (rename_link r)
      (λ k. ap (λ (m : Subst). record { goal = k.goal; own = k.own; map = m; tuple = (rename_link r k).tuple }) (only_vars-rename alive k.map)) n.links in
      λ i. record {
        preds = n.preds;
        goal = record {
          program = program' i;
          exist = exist' i;
          pure_pre = pre' i;
          pre = record { chunks = map (rename_chunk r) g.pre.chunks };
          pure_post = map (rename_lit r) g.pure_post;
          post = record { chunks = map (rename_chunk r) g.post.chunks };
        };
        links = links i;
      }
