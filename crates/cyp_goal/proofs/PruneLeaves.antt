-- What pruning leaves: nothing more to prune, and what was tidy stays so.
use Rattle.std.proofs.Common.{◌≡◌, ◌∙◌, ◌⊎◌, [], ◌∷◌, ◌++◌, ◌==◌, List, Bool, true, false, cond, not, map, filter, flat_map, length, refl, ap, ap₂, sym, inl, inr, subst, ⊎_elim}
use Rattle.std.specs.List.{list_all, list_any}
use Rattle.std.specs.Option.{is_none}
use Rattle.std.proofs.lemmas.Bool.{and_from, and_parts, both_ways, cond-false, cond-true, cond_both, false_from_ne_true, not-true, not_from_false, not_from_true}
use Rattle.std.proofs.lemmas.List.Folds.{flat_map-map}
use Rattle.cyp_goal.proofs.AllNew.{all_new-filter, filter-all}
use Rattle.cyp_goal.proofs.Live.{among_in, in_among, live_closed, live_old, live_within, touched, touched_by}
use Rattle.cyp_goal.proofs.SolveLeaves.{apart}
use Rattle.cyp_goal.proofs.SolvedLits.{solved_any-less, solved_eq-less}
use Rattle.cyp_goal.proofs.TidyLeaves.{AddressLit, IsTidy, address_lit}
use Rattle.cyp_goal.specs.Pruning.{is_kept, live_vars, only_vars, prune, touches}
use Rattle.cyp_goal.specs.Solving.{solved_any, solved_eq}
use Rattle.cyp_goal.specs.Raw.{lit_once, images_fit, link_fits, lit_fits, set_fits, term_fits}
use Rattle.cyp_goal.specs.Tidying.{address, is_plainly_true}
use Rattle.cyp_heap.specs.Chunks.{chunk_vars, chunks_vars}
use Rattle.cyp_heap.specs.Goals.{tuple_vars}
use Rattle.cyp_heap.specs.declared.chunk.Chunk.{Chunk}
use Rattle.cyp_heap.specs.declared.chunk.Chunk.TheVariants.{Block, Cell, Inst}
use Rattle.cyp_heap.specs.declared.goal.Goal.{Goal}
use Rattle.cyp_heap.specs.declared.goal.Link.{Link}
use Rattle.cyp_heap.specs.declared.goal.Node.{Node}
use Rattle.cyp_term.proofs.Equality.{Decides-var_eq}
use Rattle.cyp_term.proofs.Lists.{Among, Among-cases, Among-left, Among-right, each_at, each_from, filter_in, filter_out, flat_in, flat_out}
use Rattle.cyp_term.proofs.Repeats.{without_repeats_in, without_repeats_out}
use Rattle.cyp_term.specs.Terms.{base_vars, lit_eq, lit_vars, lits_vars, set_vars, term_vars, var_eq, var_in, without_repeats}
use Rattle.cyp_term.specs.declared.lit.Lit.{Lit}
use Rattle.cyp_term.specs.declared.subst.IntBind.{IntBind}
use Rattle.cyp_term.specs.declared.subst.SetBind.{SetBind}
use Rattle.cyp_term.specs.declared.subst.Subst.{Subst}
use Rattle.cyp_term.specs.declared.term.Term.{Term}
use Rattle.cyp_term.specs.declared.term.Var.{Var}

-- ---- filters

pub filter_all : {A : Type 0} (test p : A → Bool) (xs : List A) → list_all test xs ≡ true → list_all test (filter p xs) ≡ true
filter_all test p xs h = each_from test (filter p xs) (λ x k. each_at test x xs h (filter_out p x xs k).0)

filter_twice : {A : Type 0} (p : A → Bool) (xs : List A) → filter p (filter p xs) ≡ filter p xs
filter_twice p xs = filter-all p (filter p xs) (each_from p (filter p xs) (λ x k. (filter_out p x xs k).1))

none_passes : {A : Type 0} (p : A → Bool) (xs : List A) → ((x : A) → Among x xs → p x ≡ false) → filter p xs ≡ []
none_passes p [] h = refl
none_passes p (x ∷ xs) h = cond-false (p x) (x ∷ filter p xs) (filter p xs) (h x (inl refl)) ∙ none_passes p xs (λ y k. h y (inr k))

-- no variable of a list is missing in it
none_dropped : (vs : List Var) → filter (λ v. not (var_in v vs)) vs ≡ []
none_dropped vs = none_passes (λ v. not (var_in v vs)) vs (λ v k. not_from_true (var_in v vs) (among_in v vs k))

kept_from : (live : List Var) (l : Lit) → touches live l ≡ true → is_kept live l ≡ true
kept_from live l e = cond-true (touches live l) true (length (lit_vars l) == 0) e

-- ---- lists of a node that is pruned
module _ (n : Node) where
  abbrev g : Goal
  g = n.goal

  abbrev pub live : List Var
  live = live_vars n

  abbrev start : List Var
  start = g.program ++ chunks_vars g.pre.chunks ++ chunks_vars g.post.chunks ++ lits_vars g.pure_post ++ tuple_vars n.links

  abbrev pre : List Lit
  pre = filter (is_kept live) g.pure_pre

  abbrev used : List Var
  used = chunks_vars g.pre.chunks ++ chunks_vars g.post.chunks ++ lits_vars pre ++ lits_vars g.pure_post ++ tuple_vars n.links

  abbrev later : List Var
  later = chunks_vars g.post.chunks ++ lits_vars g.pure_post

  abbrev program : List Var
  program = filter (λ v. var_in v used) g.program

  abbrev exist : List Var
  exist = filter (λ v. var_in v later) g.exist

  abbrev dropped : List Var
  dropped = filter (λ v. not (var_in v program)) g.program ++ filter (λ v. not (var_in v exist)) g.exist

  abbrev pub alive : List Var
  alive = filter (λ v. not (var_in v dropped)) (live ++ program)

  abbrev links : List Link
  links = map (λ (k : Link). record k { map = only_vars alive k.map }) n.links

  -- the same of what is left
  abbrev live' : List Var
  live' = live_vars (prune n)

  abbrev start' : List Var
  start' = program ++ chunks_vars g.pre.chunks ++ chunks_vars g.post.chunks ++ lits_vars g.pure_post ++ tuple_vars links

  tuples_same : tuple_vars links ≡ tuple_vars n.links
  tuples_same = flat_map-map (λ (k : Link). flat_map term_vars k.tuple) (λ (k : Link). record k { map = only_vars alive k.map }) n.links

  start_live : (v : Var) → Among v start → Among v live
  start_live v k = live_old (length g.pure_pre) g.pure_pre (without_repeats var_eq start) v (without_repeats_in var_eq Decides-var_eq v start k)

  start_live' : (v : Var) → Among v start' → Among v live'
  start_live' v k = live_old (length pre) pre (without_repeats var_eq start') v (without_repeats_in var_eq Decides-var_eq v start' k)

  abbrev others : List Var
  others = chunks_vars g.pre.chunks ++ chunks_vars g.post.chunks ++ lits_vars g.pure_post ++ tuple_vars n.links

  -- the first list joined with four others, or one of these
  five : (a b c d e : List Var) (v : Var) → Among v (a ++ b ++ c ++ d ++ e) → Among v a ⊎ Among v (b ++ c ++ d ++ e)
  five a b c d e v k =
      ⊎_elim
      (λ h. ⊎_elim
      (λ i. ⊎_elim
      (λ j. ⊎_elim (λ m. inl m) (λ m. inr (Among-left v (b ++ c ++ d) e (Among-left v (b ++ c) d (Among-left v b c m)))) (Among-cases v a b j))
      (λ j. inr (Among-left v (b ++ c ++ d) e (Among-left v (b ++ c) d (Among-right v b c j))))
      (Among-cases v (a ++ b) c i))
      (λ i. inr (Among-left v (b ++ c ++ d) e (Among-right v (b ++ c) d i)))
      (Among-cases v (a ++ b ++ c) d h))
      (λ h. inr (Among-right v (b ++ c ++ d) e h))
      (Among-cases v (a ++ b ++ c ++ d) e k)

  five_first : (a b c d e : List Var) (v : Var) → Among v a → Among v (a ++ b ++ c ++ d ++ e)
  five_first a b c d e v k = Among-left v (a ++ b ++ c ++ d) e (Among-left v (a ++ b ++ c) d (Among-left v (a ++ b) c (Among-left v a b k)))

  five_rest : (a b c d e : List Var) (v : Var) → Among v (b ++ c ++ d ++ e) → Among v (a ++ b ++ c ++ d ++ e)
  five_rest a b c d e v k =
      ⊎_elim
      (λ h. ⊎_elim
      (λ i. ⊎_elim (λ m. Among-left v (a ++ b ++ c ++ d) e (Among-left v (a ++ b ++ c) d (Among-left v (a ++ b) c (Among-right v a b m))))
      (λ m. Among-left v (a ++ b ++ c ++ d) e (Among-left v (a ++ b ++ c) d (Among-right v (a ++ b) c m))) (Among-cases v b c i))
      (λ i. Among-left v (a ++ b ++ c ++ d) e (Among-right v (a ++ b ++ c) d i))
      (Among-cases v (b ++ c) d h))
      (λ h. Among-right v (a ++ b ++ c ++ d) e h)
      (Among-cases v (b ++ c ++ d) e k)

  program_live : (v : Var) → Among v g.program → Among v live
  program_live v k = start_live v (five_first g.program (chunks_vars g.pre.chunks) (chunks_vars g.post.chunks) (lits_vars g.pure_post) (tuple_vars n.links) v k)

  others_live' : (v : Var) → Among v others → Among v live'
  others_live' v k =
      start_live' v (five_rest program (chunks_vars g.pre.chunks) (chunks_vars g.post.chunks) (lits_vars g.pure_post) (tuple_vars links) v
      (subst (λ ts. Among v (chunks_vars g.pre.chunks ++ chunks_vars g.post.chunks ++ lits_vars g.pure_post ++ ts)) (sym tuples_same) k))

  program_live' : (v : Var) → Among v program → Among v live'
  program_live' v k = start_live' v (five_first program (chunks_vars g.pre.chunks) (chunks_vars g.post.chunks) (lits_vars g.pure_post) (tuple_vars links) v k)

  -- a variable of a literal that is left is used
  lits_used : (l : Lit) (v : Var) → Among l pre → Among v (lit_vars l) → var_in v used ≡ true
  lits_used l v k i =
      among_in v used
      (Among-left v (chunks_vars g.pre.chunks ++ chunks_vars g.post.chunks ++ lits_vars pre ++ lits_vars g.pure_post) (tuple_vars n.links)
      (Among-left v (chunks_vars g.pre.chunks ++ chunks_vars g.post.chunks ++ lits_vars pre) (lits_vars g.pure_post)
      (Among-right v (chunks_vars g.pre.chunks ++ chunks_vars g.post.chunks) (lits_vars pre) (flat_in lit_vars v l pre k i))))

  -- nothing becomes live
  live'_live : (v : Var) → Among v live' → Among v live
  live'_live v k =
      live_within (λ w. Among w live) (length pre) pre (without_repeats var_eq start')
      (λ l i a b s t u. live_closed g.pure_pre (without_repeats var_eq start) l (filter_out (is_kept live) l g.pure_pre i).0 a b s t u)
      (λ w i. start'_live w (without_repeats_out var_eq Decides-var_eq w start' i)) v k
    where
      start'_live : (w : Var) → Among w start' → Among w live
      start'_live w i =
          ⊎_elim (λ m. program_live w (filter_out (λ x. var_in x used) w g.program m).0)
          (λ m. start_live w (five_rest g.program (chunks_vars g.pre.chunks) (chunks_vars g.post.chunks) (lits_vars g.pure_post) (tuple_vars n.links) w
          (subst (λ ts. Among w (chunks_vars g.pre.chunks ++ chunks_vars g.post.chunks ++ lits_vars g.pure_post ++ ts)) tuples_same m)))
          (five program (chunks_vars g.pre.chunks) (chunks_vars g.post.chunks) (lits_vars g.pure_post) (tuple_vars links) w i)

  -- live still, or a program variable that was dropped
  abbrev Stays : Var → Type 0
  Stays v = Among v live' ⊎ (Among v g.program × (var_in v used ≡ false))

  stays_live : (v : Var) → Stays v → Among v live
  stays_live v (inl k) = live'_live v k
  stays_live v (inr k) = program_live v k.0

  stays_used : (v : Var) → Stays v → var_in v used ≡ true → Among v live'
  stays_used v (inl k) e = k
  stays_used v (inr k) e = absurd (both_ways (var_in v used) k.1 e)

  live_stays : (v : Var) → Among v live → Stays v
  live_stays v k =
      live_within Stays (length g.pure_pre) g.pure_pre (without_repeats var_eq start)
      (λ l i a b s t u.
      let kept : Among l pre = filter_in (is_kept live) l g.pure_pre i (kept_from live l (touched live l a s (stays_live a t))) in
      inl (live_closed pre (without_repeats var_eq start') l kept a b s (stays_used a t (lits_used l a kept s)) u))
      (λ w i. start_stays w (without_repeats_out var_eq Decides-var_eq w start i)) v k
    where
      program_stays : (w : Var) (b : Bool) → var_in w used ≡ b → Among w g.program → Stays w
      program_stays w true e i = inl (program_live' w (filter_in (λ x. var_in x used) w g.program i e))
      program_stays w false e i = inr (i, e)

      start_stays : (w : Var) → Among w start → Stays w
      start_stays w i =
          ⊎_elim (program_stays w (var_in w used) refl) (λ m. inl (others_live' w m))
          (five g.program (chunks_vars g.pre.chunks) (chunks_vars g.post.chunks) (lits_vars g.pure_post) (tuple_vars n.links) w i)

  -- ---- a second time nothing is dropped
  kept_again_by : (l : Lit) → Among l pre → (b : Bool) → touches live l ≡ b → cond b true (length (lit_vars l) == 0) ≡ true → is_kept live' l ≡ true
  kept_again_by l k true e h =
      let t = touched_by live l e in
      kept_from live' l (touched live' l t.0 t.1 (stays_used t.0 (live_stays t.0 t.2) (lits_used l t.0 k t.1)))
  kept_again_by l k false e h = cond_both (touches live' l) true (length (lit_vars l) == 0) (λ b. b ≡ true) (λ _. refl) (λ _. h)

  pre_again : filter (is_kept live') pre ≡ pre
  pre_again = filter-all (is_kept live') pre (each_from (is_kept live') pre (λ l k. kept_again_by l k (touches live l) refl (filter_out (is_kept live) l g.pure_pre k).1))

  used_again : (chunks_vars g.pre.chunks ++ chunks_vars g.post.chunks ++ lits_vars (filter (is_kept live') pre) ++ lits_vars g.pure_post ++ tuple_vars links) ≡ used
  used_again = ap₂ (λ ls ts. chunks_vars g.pre.chunks ++ chunks_vars g.post.chunks ++ lits_vars ls ++ lits_vars g.pure_post ++ ts) pre_again tuples_same

  program_again : filter (λ v. var_in v (chunks_vars g.pre.chunks ++ chunks_vars g.post.chunks ++ lits_vars (filter (is_kept live') pre) ++ lits_vars g.pure_post ++ tuple_vars links)) program ≡ program
  program_again = ap (λ us. filter (λ v. var_in v us) program) used_again ∙ filter_twice (λ v. var_in v used) g.program

  exist_again : filter (λ v. var_in v later) exist ≡ exist
  exist_again = filter_twice (λ v. var_in v later) g.exist

  abbrev dropped_at : List Var → List Var → List Var
  dropped_at ps es = filter (λ v. not (var_in v ps)) program ++ filter (λ v. not (var_in v es)) exist

  abbrev alive_at : List Var → List Var → List Var
  alive_at ps es = filter (λ v. not (var_in v (dropped_at ps es))) (live' ++ ps)

  alive_again : alive_at program exist ≡ live' ++ program
  alive_again =
      ap₂ (λ xs ys. filter (λ v. not (var_in v (xs ++ ys))) (live' ++ program)) (none_dropped program) (none_dropped exist)
      ∙ filter-all (λ v. not (var_in v [])) (live' ++ program) (each_from (λ v. not (var_in v [])) (live' ++ program) (λ v k. refl))

  alive_stays : (v : Var) → Among v alive → Among v (live' ++ program)
  alive_stays v k =
      let r = filter_out (λ w. not (var_in w dropped)) v (live ++ program) k in
      ⊎_elim
      (λ m. ⊎_elim (λ i. Among-left v live' program i) (λ i. absurd (both_ways (var_in v dropped) (not-true (var_in v dropped) r.1) (among_in v dropped (gone v i)))) (live_stays v m))
      (λ m. Among-right v live' program m)
      (Among-cases v live program r.0)
    where
      gone : (v : Var) → Among v g.program × (var_in v used ≡ false) → Among v dropped
      gone v i =
          Among-left v (filter (λ w. not (var_in w program)) g.program) (filter (λ w. not (var_in w exist)) g.exist)
          (filter_in (λ w. not (var_in w program)) v g.program i.0 (not_from_false (var_in v program) (false_from_ne_true (var_in v program)
          (λ e. both_ways (var_in v used) i.1 (filter_out (λ w. var_in w used) v g.program (in_among v program e)).1))))

  only_again : (m : Subst) → only_vars (live' ++ program) (only_vars alive m) ≡ only_vars alive m
  only_again m =
      let more : (vs : List Var) → list_all (λ v. var_in v alive) vs ≡ true → list_all (λ v. var_in v (live' ++ program)) vs ≡ true =
      λ vs h. each_from (λ v. var_in v (live' ++ program)) vs (λ v k. among_in v (live' ++ program) (alive_stays v (in_among v alive (each_at (λ w. var_in w alive) v vs h k)))) in
      let ints = filter-all (λ (b : IntBind). list_all (λ v. var_in v (live' ++ program)) (term_vars b.to)) (only_vars alive m).ints
      (each_from (λ (b : IntBind). list_all (λ v. var_in v (live' ++ program)) (term_vars b.to)) (only_vars alive m).ints
      (λ b k. more (term_vars b.to) (filter_out (λ (b : IntBind). list_all (λ v. var_in v alive) (term_vars b.to)) b m.ints k).1)) in
      let sets = filter-all (λ (b : SetBind). list_all (λ v. var_in v (live' ++ program)) (set_vars b.to)) (only_vars alive m).sets
      (each_from (λ (b : SetBind). list_all (λ v. var_in v (live' ++ program)) (set_vars b.to)) (only_vars alive m).sets
      (λ b k. more (set_vars b.to) (filter_out (λ (b : SetBind). list_all (λ v. var_in v alive) (set_vars b.to)) b m.sets k).1)) in
      λ i. record { ints = ints i; sets = sets i }

  links_again : map (λ (k : Link). record k { map = only_vars (live' ++ program) k.map }) links ≡ links
  links_again = each n.links
    where
      each : (ks : List Link) → map (λ (k : Link). record k { map = only_vars (live' ++ program) k.map }) (map (λ (k : Link). record k { map = only_vars alive k.map }) ks)
          ≡ map (λ (k : Link). record k { map = only_vars alive k.map }) ks
      each [] = refl
      each (k ∷ ks) = λ i. record { goal = k.goal; own = k.own; map = only_again k.map i; tuple = k.tuple } ∷ each ks i

  -- pruning twice is pruning once
  pub prune_again : prune (prune n) ≡ prune n
  prune_again =
      let ks = (λ i. map (λ (k : Link). record k { map = only_vars (alive_at (program_again i) (exist_again i)) k.map }) links)
      ∙ ap (λ vs. map (λ (k : Link). record k { map = only_vars vs k.map }) links) alive_again ∙ links_again in
      λ i. record {
        preds = n.preds;
        goal = record { program = program_again i; exist = exist_again i; pure_pre = pre_again i; pre = g.pre; pure_post = g.pure_post; post = g.post };
        links = ks i;
      }

  -- ---- what was tidy stays so

  -- a literal that an address is positive is kept
  address_in : (c : Chunk) (t : Term) (v : Var) → Among t (address c) → Among v (term_vars t) → Among v (chunk_vars c)
  address_in (Inst i) t v k h = absurd k
  address_in (Block b) t v (inl e) h = subst (λ (x : Term). Among v (term_vars x)) e h
  address_in (Block b) t v (inr k) h = absurd k
  address_in (Cell c) t v (inl e) h = Among-left v (term_vars c.at) (term_vars c.content) (subst (λ (x : Term). Among v (term_vars x)) e h)
  address_in (Cell c) t v (inr k) h = absurd k

  base_live : (v : Var) → Among v (flat_map term_vars (flat_map address g.pre.chunks)) → Among v live
  base_live v k =
      let t = flat_out term_vars v (flat_map address g.pre.chunks) k in
      let c = flat_out address t.0 g.pre.chunks t.1 in
      start_live v (five_rest g.program (chunks_vars g.pre.chunks) (chunks_vars g.post.chunks) (lits_vars g.pure_post) (tuple_vars n.links) v
      (Among-left v (chunks_vars g.pre.chunks ++ chunks_vars g.post.chunks ++ lits_vars g.pure_post) (tuple_vars n.links)
      (Among-left v (chunks_vars g.pre.chunks ++ chunks_vars g.post.chunks) (lits_vars g.pure_post)
      (Among-left v (chunks_vars g.pre.chunks) (chunks_vars g.post.chunks)
      (flat_in chunk_vars v c.0 g.pre.chunks c.1 (address_in c.0 t.0 v c.2 t.2))))))

  address_kept : (l : Lit) → AddressLit (flat_map address g.pre.chunks) l → is_kept live l ≡ true
  address_kept l (inl h) =
      kept_from live l (touched live l h.1 (subst (λ m. Among h.1 (lit_vars m)) (sym h.2) (subst (λ b. Among h.1 (base_vars b)) (sym h.4) (inl refl))) (base_live h.1 h.3))
  address_kept l (inr h) = ap (is_kept live) h.1 ∙ ap (λ b. cond (list_any (λ v. var_in v live) (base_vars b)) true (length (base_vars b) == 0)) h.2

module _ (p q : Var → Bool) where
  link_kept : (vs : List Var) (k : Link) → link_fits p q k ≡ true → link_fits p q (record k { map = only_vars vs k.map }) ≡ true
  link_kept vs k h =
      let both = and_parts (list_all (term_fits p) k.tuple) (images_fit p q k.map) h in
      let images = and_parts (list_all (λ (b : IntBind). term_fits p b.to) k.map.ints) (list_all (λ (b : SetBind). set_fits p q b.to) k.map.sets) both.1 in
      and_from (list_all (term_fits p) k.tuple) (images_fit p q (only_vars vs k.map)) both.0
      (and_from (list_all (λ (b : IntBind). term_fits p b.to) (only_vars vs k.map).ints) (list_all (λ (b : SetBind). set_fits p q b.to) (only_vars vs k.map).sets)
      (filter_all (λ (b : IntBind). term_fits p b.to) (λ (b : IntBind). list_all (λ v. var_in v vs) (term_vars b.to)) k.map.ints images.0)
      (filter_all (λ (b : SetBind). set_fits p q b.to) (λ (b : SetBind). list_all (λ v. var_in v vs) (set_vars b.to)) k.map.sets images.1))

  pub links_kept : (vs : List Var) (ks : List Link) → list_all (link_fits p q) ks ≡ true → list_all (link_fits p q) (map (λ (k : Link). record k { map = only_vars vs k.map }) ks) ≡ true
  links_kept vs [] h = refl
  links_kept vs (k ∷ ks) h =
      let both = and_parts (link_fits p q k) (list_all (link_fits p q) ks) h in
      and_from (link_fits p q (record k { map = only_vars vs k.map })) (list_all (link_fits p q) (map (λ (k : Link). record k { map = only_vars vs k.map }) ks))
      (link_kept vs k both.0) (links_kept vs ks both.1)

  pub prune_leaves : (n : Node) → IsTidy p q n → IsTidy p q (prune n)
  prune_leaves n t =
      let fits = t.solved.fits in
      record {
        solved = record {
          fits = record {
            pure_pre = filter_all (lit_fits p q) (is_kept (live n)) n.goal.pure_pre fits.pure_pre;
            pre = fits.pre;
            pure_post = fits.pure_post;
            post = fits.post;
            links = links_kept (alive n) n.links fits.links;
            pre_once = filter_all lit_once (is_kept (live n)) n.goal.pure_pre fits.pre_once;
            post_once = fits.post_once;
          };
          none_pre = each_from (λ l. is_none (solved_eq (apart (program n)) l)) (pre n) (λ l k.
              solved_eq-less (apart n.goal.program) (apart (program n)) l
              (λ v i e. not_from_false (var_in v n.goal.program) (false_from_ne_true (var_in v n.goal.program) (λ m.
              both_ways (var_in v (program n)) (not-true (var_in v (program n)) e)
              (among_in v (program n) (filter_in (λ w. var_in w (used n)) v n.goal.program (in_among v n.goal.program m) (lits_used n l v k i))))))
              (each_at (λ m. is_none (solved_eq (apart n.goal.program) m)) l n.goal.pure_pre t.solved.none_pre (filter_out (is_kept (live n)) l n.goal.pure_pre k).0));
          none_post = each_from (λ l. is_none (solved_any (λ v. var_in v (exist n)) l)) n.goal.pure_post (λ l k.
              solved_any-less (λ v. var_in v n.goal.exist) (λ v. var_in v (exist n)) l
              (λ v e. among_in v n.goal.exist (filter_out (λ w. var_in w (later n)) v n.goal.exist (in_among v (exist n) e)).0)
              (each_at (λ m. is_none (solved_any (λ v. var_in v n.goal.exist) m)) l n.goal.pure_post t.solved.none_post k));
        };
        pre_tells = filter_all (λ l. not (is_plainly_true l)) (is_kept (live n)) n.goal.pure_pre t.pre_tells;
        post_tells = t.post_tells;
        pre_once = all_new-filter lit_eq (is_kept (live n)) n.goal.pure_pre t.pre_once;
        post_once = t.post_once;
        addresses = λ l k. filter_in (is_kept (live n)) l n.goal.pure_pre (t.addresses l k)
            (address_kept n l (address_lit (flat_map address n.goal.pre.chunks) l k));
      }
