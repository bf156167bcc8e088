-- The normal form of a node that is as the rules ask is so too.
use Rattle.std.proofs.Common.{◌≡◌, refl, sym, ap, ◌∙◌, ℕ, zero, suc, Bool, true, false, not, ◌&&◌, List, [], ◌∷◌, ◌++◌, filter, flat_map, map, IfSome, IsTrue, Option, Some, is_none, slice_get, subst, inl, inr}
use Rattle.std.specs.List.{list_all}
use Rattle.std.proofs.lemmas.Bool.{and_from, and_parts, cond_both, not-true}
use Rattle.cyp_goal.proofs.EachVar.{Each, EachPart, each_part, link_vars, second}
use Rattle.cyp_goal.proofs.LinksFit.{insts_fit_from, sides_fit}
use Rattle.cyp_goal.proofs.LinksNormal.{FitsOver, IsKeptWithin, normal_fits}
use Rattle.cyp_goal.proofs.Live.{among_in, in_among}
use Rattle.cyp_goal.proofs.NormalKeeps.{HasSorts, Kept, prune_keeps, solve_keeps, tidy_keeps}
use Rattle.cyp_goal.proofs.PruneLeaves.{alive, filter_all}
use Rattle.cyp_goal.proofs.Renumber.{no_set}
use Rattle.cyp_goal.proofs.SolveLeaves.{apart}
use Rattle.cyp_goal.specs.Normal.{Renaming, solve, tidy_node}
use Rattle.cyp_goal.specs.Numbering.{new_name, numbering, renumber}
use Rattle.cyp_goal.specs.Pruning.{only_vars, prune}
use Rattle.cyp_goal.specs.Raw.{images_fit, link_fits, set_fits, term_fits}
use Rattle.cyp_heap.specs.Chunks.{chunks_vars, insts}
use Rattle.cyp_heap.specs.Formed.{all_differ, inst_fits, insts_fit, is_card_var}
use Rattle.cyp_heap.specs.Goals.{apply_link, image_vars, node_vars}
use Rattle.cyp_heap.specs.declared.chunk.InstOf.{InstOf}
use Rattle.cyp_heap.specs.declared.goal.Goal.{Goal}
use Rattle.cyp_heap.specs.declared.goal.Link.{Link}
use Rattle.cyp_heap.specs.declared.goal.Node.{Node}
use Rattle.cyp_heap.specs.declared.pred.Preds.{Preds}
use Rattle.cyp_kernel.proofs.AppliedVars.{joined, maps_each}
use Rattle.cyp_kernel.proofs.NormalMeaning.{Made, apart_from, apart_two, made, ready_apart, ready_sorts, used_left}
use Rattle.cyp_kernel.proofs.NormalReady.{Known, Out, OutOf, all_apart, brings, chunks_out, lits_out, numbers_sorted, out_left}
use Rattle.cyp_kernel.proofs.NumberMeaning.{new_beside}
use Rattle.cyp_kernel.proofs.PassedVars.{images_at, images_pass}
use Rattle.cyp_kernel.proofs.SolveMeaning.{Solved, images_apart, solve_meaning}
use Rattle.cyp_kernel.proofs.SteadyParts.{slice_get-among}
use Rattle.cyp_kernel.proofs.TidyMeaning.{out_filter}
use Rattle.cyp_kernel.specs.NormalSteady.{FormedIsSteady, NormalIsSteady, SteadyIsReady}
use Rattle.cyp_kernel.specs.Steady.{IsSteady}
use Rattle.cyp_term.proofs.Lists.{Among, Among-left, Among-right, each_at, each_from, filter_out, flat_in, map_from}
use Rattle.cyp_term.specs.Terms.{is_set_var, lits_vars, set_vars, sort_eq, term_vars, var_in}
use Rattle.cyp_term.specs.declared.subst.IntBind.{IntBind}
use Rattle.cyp_term.specs.declared.subst.SetBind.{SetBind}
use Rattle.cyp_term.specs.declared.subst.Subst.{Subst}
use Rattle.cyp_term.specs.declared.term.Sort.TheVariants.{Int}
use Rattle.cyp_term.specs.declared.term.Var.{Var}

pub steady_is_ready : SteadyIsReady
steady_is_ready n s =
    let g : Goal = n.goal in
    let cards : Bool = list_all (λ (i : InstOf). is_card_var i.card) (insts g.pre.chunks) in
    let fit : Bool = list_all (inst_fits n.preds) (insts g.pre.chunks ++ insts g.post.chunks) in
    let outer = and_parts (fit && cards) (list_all (λ (i : InstOf). is_none i.card) (insts g.post.chunks)) s.fits in
    record {
      sorted = s.sorted;
      exist_apart = apart_two g.exist g.program (lits_vars g.pure_pre) (chunks_vars g.pre.chunks) s.exist_apart;
      pre_cards = (and_parts fit cards outer.0).1;
      post_cards = outer.1;
    }

pub formed_is_steady : FormedIsSteady
formed_is_steady preds g f sorted = record {
  sorted = sorted;
  fits = and_from _ _ (and_from _ _ f.instances_fit f.pre_cards) f.post_cards;
  program_int = f.program_int;
  program_differs = f.program_differs;
  exist_differs = f.exist_differs;
  exist_apart = f.exist_apart;
  exist_images = λ k i v e h. absurd (slice_get-among {A = Link} [] i k e);
}

-- ---- lists without repeats

differ_filter : (test : Var → Bool) (vs : List Var) → all_differ vs ≡ true → all_differ (filter test vs) ≡ true
differ_filter test [] h = refl
differ_filter test (v ∷ vs) h =
    let both = and_parts (not (var_in v vs)) (all_differ vs) h in
    cond_both (test v) (v ∷ filter test vs) (filter test vs) (λ us. all_differ us ≡ true)
    (λ e. and_from (not (var_in v (filter test vs))) (all_differ (filter test vs)) (ap not (out_filter v test vs (not-true (var_in v vs) both.0))) (differ_filter test vs both.1))
    (λ e. differ_filter test vs both.1)

differ_new : (vs us : List Var) → Each (λ v. Among v vs) us → all_differ us ≡ true → all_differ (map (new_name vs) us) ≡ true
differ_new vs [] e h = refl
differ_new vs (u ∷ us) e h =
    let both = and_parts (not (var_in u us)) (all_differ us) h in
    let rest = second (λ v. Among v vs) (u ∷ []) us e in
    and_from (not (var_in (new_name vs u) (map (new_name vs) us))) (all_differ (map (new_name vs) us))
    (ap not (new_beside vs us rest u (e u (inl refl)) (not-true (var_in u us) both.0))) (differ_new vs us rest both.1)

pub among_at : {A : Type 0} (x : A) (xs : List A) → Among x xs → (i : ℕ) × (slice_get xs i ≡ Some x)
among_at x [] k = absurd k
among_at x (y ∷ xs) (inl e) = (zero, ap Some (sym e))
among_at x (y ∷ xs) (inr k) = let r = among_at x xs k in (suc r.0, r.1)

-- ---- before the numbers

module _ (n m : Node) (steady : IsSteady n) (done : solve n ≡ Some m) where
  abbrev x : Node
  x = prune (tidy_node m)

  kept : Kept no_set is_set_var n m
  kept = solve_keeps no_set is_set_var n m (ready_sorts n (steady_is_ready n steady)) done

  sorts : HasSorts no_set is_set_var x
  unfolding kept
  sorts = prune_keeps no_set is_set_var (tidy_node m) (tidy_keeps no_set is_set_var m kept.fits)

  solved : Solved n m
  solved = solve_meaning n m (ready_apart n (steady_is_ready n steady)) (ready_sorts n (steady_is_ready n steady)).pure_pre done

  program_left : (v : Var) → Among v x.goal.program → Among v n.goal.program
  program_left v k = subst (Among v) kept.program (filter_out _ v m.goal.program k).0

  exist_left : (v : Var) → var_in v n.goal.exist ≡ false → var_in v x.goal.exist ≡ false
  exist_left v h = out_filter v _ m.goal.exist (ap (var_in v) solved.same.exist ∙ h)

  program_out : Each (λ v. var_in v x.goal.exist ≡ false) x.goal.program
  program_out v k =
      let lits : List Var = lits_vars n.goal.pure_pre in
      let chunks : List Var = chunks_vars n.goal.pre.chunks in
      exist_left v (not-true (var_in v n.goal.exist) (apart_from n.goal.exist (n.goal.program ++ lits ++ chunks) steady.exist_apart v
      (Among-left v (n.goal.program ++ lits) chunks (Among-left v n.goal.program lits (program_left v k)))))

  -- the maps of the node have no existential in an image, nor do those that are left
  images_before : list_all (images_apart n.goal.exist) n.links ≡ true
  images_before =
      each_from (images_apart n.goal.exist) n.links (λ k i.
      let at = among_at k n.links i in
      images_pass (apart n.goal.exist) k.map (λ v j. ap not (steady.exist_images k at.0 v at.1 (among_in v (image_vars k.map) j))))

  fewer_images : (test : Var → Bool) (vs : List Var) (s : Subst) → images_fit test test s ≡ true → images_fit test test (only_vars vs s) ≡ true
  fewer_images test vs s h =
      let both = and_parts (list_all (λ (b : IntBind). term_fits test b.to) s.ints) (list_all (λ (b : SetBind). set_fits test test b.to) s.sets) h in
      and_from (list_all (λ (b : IntBind). term_fits test b.to) (only_vars vs s).ints) (list_all (λ (b : SetBind). set_fits test test b.to) (only_vars vs s).sets)
      (filter_all (λ (b : IntBind). term_fits test b.to) (λ (b : IntBind). list_all (λ v. var_in v vs) (term_vars b.to)) s.ints both.0)
      (filter_all (λ (b : SetBind). set_fits test test b.to) (λ (b : SetBind). list_all (λ v. var_in v vs) (set_vars b.to)) s.sets both.1)

  images_out : (k : Link) → Among k x.links → Each (λ v. var_in v x.goal.exist ≡ false) (image_vars k.map)
  images_out k i =
      let a : Var → Bool = apart n.goal.exist in
      let l = map_from (λ (j : Link). record j { map = only_vars (alive (tidy_node m)) j.map }) k m.links i in
      let fit = fewer_images a (alive (tidy_node m)) l.0.map (each_at (images_apart n.goal.exist) l.0 m.links (solved.same.images images_before) l.1) in
      subst (λ (j : Link). Each (λ v. var_in v x.goal.exist ≡ false) (image_vars j.map)) (sym l.2)
      (λ v j. exist_left v (not-true (var_in v n.goal.exist) (images_at a (only_vars (alive (tidy_node m)) l.0.map) fit v j)))

-- ---- new numbers

pub normal_is_steady : NormalIsSteady
normal_is_steady n r steady e =
    let d : Made n r = made n r e in
    let m : Node = d.solved in
    let x : Node = prune (tidy_node m) in
    let vs : List Var = node_vars x in
    let is = ap (λ (y : Renaming). y.node) d.is in
    let f : HasSorts no_set is_set_var x = sorts n m steady d.done in
    let used = used_left (tidy_node m) in
    let out : OutOf x = out_left m (solved n m steady d.done).is in
    let parts : EachPart (λ v. Among v vs) x = each_part (λ v. Among v vs) x (λ v i. i) in
    let fits : IsKeptWithin (FitsOver n.preds) r = subst (λ (o : Option Renaming). IfSome o (IsKeptWithin (FitsOver n.preds))) e
    (normal_fits n.preds n (record { same = refl; sides = sides_fit n.preds n.goal steady.fits })) in
    let whole : IsTrue (insts_fit r.node.preds r.node.goal) = subst (λ (p : Preds). IsTrue (insts_fit p r.node.goal)) (sym fits.fact.same) (insts_fit_from n.preds r.node.goal fits.fact.sides) in
    let out_program : Each (Out x f used out) (map (new_name vs) x.goal.program) = (λ v k.
    let w = map_from (new_name vs) v x.goal.program k in
    subst (Out x f used out) (sym w.2) (new_beside vs x.goal.exist used w.0 (parts.program w.0 w.1) (program_out n m steady d.done w.0 w.1))) in
    let steady' : IsSteady (renumber x) = record {
      sorted = numbers_sorted x f used out;
      fits = subst (λ (y : Node). insts_fit y.preds y.goal ≡ true) (sym is) whole;
      program_int = each_from (λ (v : Var). sort_eq v.sort Int) (map (new_name vs) x.goal.program) (λ v k.
          let w = map_from (new_name vs) v x.goal.program k in
          rw w.2 (each_at (λ (u : Var). sort_eq u.sort Int) w.0 n.goal.program steady.program_int (program_left n m steady d.done w.0 w.1)));
      program_differs = differ_new vs x.goal.program parts.program
          (differ_filter _ m.goal.program (subst (λ (us : List Var). all_differ us ≡ true) (sym (kept n m steady d.done).program) steady.program_differs));
      exist_differs = differ_new vs x.goal.exist used
          (differ_filter _ m.goal.exist (subst (λ (us : List Var). all_differ us ≡ true) (sym (solved n m steady d.done).same.exist) steady.exist_differs));
      exist_apart = all_apart x f used out (map (new_name vs) x.goal.program ++ lits_vars (renumber x).goal.pure_pre ++ chunks_vars (renumber x).goal.pre.chunks)
          (joined (Out x f used out) (map (new_name vs) x.goal.program ++ lits_vars (renumber x).goal.pure_pre) (chunks_vars (renumber x).goal.pre.chunks)
          (joined (Out x f used out) (map (new_name vs) x.goal.program) (lits_vars (renumber x).goal.pure_pre) out_program (lits_out x f used out)) (chunks_out x f used out));
      exist_images = λ k i v at h.
          let l = map_from (apply_link (numbering vs)) k x.links (slice_get-among (renumber x).links i k at) in
          let fit = (and_parts (list_all (term_fits no_set) l.0.tuple) (images_fit no_set is_set_var l.0.map) (each_at (link_fits no_set is_set_var) l.0 x.links f.links l.1)).1 in
          maps_each (numbering vs) no_set is_set_var (Known x f used out) (Out x f used out) (brings x f used out) l.0.map fit
          (λ w j. (parts.links w (flat_in link_vars w l.0 x.links l.1 (Among-right w (flat_map term_vars l.0.tuple) (image_vars l.0.map) j)), images_out n m steady d.done l.0 l.1 w j))
          v (in_among v (image_vars (apply_link (numbering vs) l.0).map) (subst (λ (y : Link). var_in v (image_vars y.map) ≡ true) l.2 h));
    } in
    subst IsSteady is steady'
