-- What is pruned by tables of variables is what the definition prunes.
use Rattle.std.proofs.Common.{◌≡◌, ◌∙◌, ◌&&◌, [], ◌∷◌, ◌++◌, Bool, List, cond, length, map, not, refl, ap, sym, inl, inr, ⊎_elim}
use Rattle.std.specs.List.{filter, list_all}
use Rattle.std.proofs.lemmas.Bool.{and_from, and_parts}
use Rattle.cyp_goal.proofs.Live.{among_in, in_among, live_old}
use Rattle.cyp_goal.proofs.SameVars.{same_bool, same_in, same_once_vars}
use Rattle.cyp_goal.specs.Alive.{alive_link, is_alive}
use Rattle.cyp_goal.specs.Pruning.{is_kept, live_vars, only_vars, prune}
use Rattle.cyp_heap.specs.Chunks.{chunks_vars}
use Rattle.cyp_heap.specs.Goals.{tuple_vars}
use Rattle.cyp_heap.specs.declared.goal.Goal.{Goal}
use Rattle.cyp_heap.specs.declared.goal.Link.{Link}
use Rattle.cyp_heap.specs.declared.goal.Node.{Node}
use Rattle.cyp_term.proofs.Equality.{Decides-var_eq}
use Rattle.cyp_term.proofs.Lists.{Among, Among-cases, Among-left, filter_in, filter_out}
use Rattle.cyp_term.proofs.Repeats.{with_all_new_append, without_repeats_in}
use Rattle.cyp_term.specs.Terms.{lits_vars, set_vars, term_vars, var_eq, var_in, with_all_new, without_repeats}
use Rattle.cyp_term.specs.declared.lit.Lit.{Lit}
use Rattle.cyp_term.specs.declared.subst.IntBind.{IntBind}
use Rattle.cyp_term.specs.declared.subst.SetBind.{SetBind}
use Rattle.cyp_term.specs.declared.term.Var.{Var}

-- a table has the variables of the list
in_table : (v : Var) (vs us : List Var) → vs ≡ without_repeats var_eq us → var_in v vs ≡ var_in v us
in_table v vs us e = ap (var_in v) e ∙ same_in (without_repeats var_eq us) us (same_once_vars us) v

-- tests that agree on the elements
pub filter_where : {A : Type 0} (p q : A → Bool) (xs : List A) → ((x : A) → Among x xs → p x ≡ q x) → filter p xs ≡ filter q xs
filter_where p q [] h = refl
filter_where p q (x ∷ xs) h =
    let rest = filter_where p q xs (λ y k. h y (inr k)) in
    let first = h x (inl refl) in
    λ i. cond (first i) (x ∷ rest i) (rest i)

module _ (vs us : List Var) where
  abbrev kept : List Var
  kept = filter (λ v. var_in v us) vs

  in_kept : (v : Var) → Among v vs → var_in v kept ≡ var_in v us
  in_kept v k =
      same_bool (var_in v kept) (var_in v us) (λ e. (filter_out (λ w. var_in w us) v vs (in_among v kept e)).1) (λ e. among_in v kept (filter_in (λ w. var_in w us) v vs k e))

  -- what isn't kept is what isn't in the second list
  not_kept : filter (λ v. not (var_in v us)) vs ≡ filter (λ v. not (var_in v kept)) vs
  not_kept = filter_where (λ v. not (var_in v us)) (λ v. not (var_in v kept)) vs (λ v k. ap not (sym (in_kept v k)))

-- a live variable that isn't dropped, where the program variables are live
alive_in : (live program dropped : List Var) → ((v : Var) → Among v program → Among v live) → (v : Var) → (var_in v live && not (var_in v dropped)) ≡ var_in v (filter (λ w. not (var_in w dropped)) (live ++ program))
alive_in live program dropped h v =
    let test : Var → Bool = λ w. not (var_in w dropped) in
    same_bool (var_in v live && test v) (var_in v (filter test (live ++ program)))
    (λ e. let both = and_parts (var_in v live) (test v) e in among_in v (filter test (live ++ program)) (filter_in test v (live ++ program) (Among-left v live program (in_among v live both.0)) both.1))
    (λ e. let out = filter_out test v (live ++ program) (in_among v (filter test (live ++ program)) e) in
    and_from (var_in v live) (test v) (among_in v live (⊎_elim (λ k. k) (h v) (Among-cases v live program out.0))) out.1)

module _ (n : Node) (live used late dropped program exist : List Var) (pre : List Lit) (links : List Link)
    (is_live : live ≡ live_vars n)
    (is_pre : pre ≡ filter (is_kept live) n.goal.pure_pre)
    (is_used : used ≡ without_repeats var_eq (chunks_vars n.goal.pre.chunks ++ chunks_vars n.goal.post.chunks ++ lits_vars pre ++ lits_vars n.goal.pure_post ++ tuple_vars n.links))
    (is_late : late ≡ without_repeats var_eq (chunks_vars n.goal.post.chunks ++ lits_vars n.goal.pure_post))
    (is_dropped : dropped ≡ with_all_new var_eq (without_repeats var_eq (filter (λ v. not (var_in v used)) n.goal.program)) (filter (λ v. not (var_in v late)) n.goal.exist))
    (is_program : program ≡ filter (λ v. var_in v used) n.goal.program)
    (is_exist : exist ≡ filter (λ v. var_in v late) n.goal.exist)
    (are_links : links ≡ map (alive_link live dropped) n.links) where
  g : Goal
  g = n.goal

  abbrev all_live : List Var
  all_live = live_vars n

  abbrev lits : List Lit
  lits = filter (is_kept all_live) n.goal.pure_pre

  pre_same : pre ≡ lits
  pre_same = is_pre ∙ ap (λ vs. filter (is_kept vs) n.goal.pure_pre) is_live

  abbrev all_used : List Lit → List Var
  all_used ls = chunks_vars n.goal.pre.chunks ++ chunks_vars n.goal.post.chunks ++ lits_vars ls ++ lits_vars n.goal.pure_post ++ tuple_vars n.links

  abbrev all_late : List Var
  all_late = chunks_vars n.goal.post.chunks ++ lits_vars n.goal.pure_post

  in_used : (v : Var) → var_in v used ≡ var_in v (all_used lits)
  in_used v = in_table v used (all_used pre) is_used ∙ ap (λ ls. var_in v (all_used ls)) pre_same

  in_late : (v : Var) → var_in v late ≡ var_in v all_late
  in_late v = in_table v late all_late is_late

  abbrev new_program : List Var
  new_program = filter (λ v. var_in v (all_used lits)) n.goal.program

  abbrev new_exist : List Var
  new_exist = filter (λ v. var_in v all_late) n.goal.exist

  program_same : program ≡ new_program
  program_same = is_program ∙ (λ i. filter (λ v. in_used v i) n.goal.program)

  exist_same : exist ≡ new_exist
  exist_same = is_exist ∙ (λ i. filter (λ v. in_late v i) n.goal.exist)

  abbrev gone : List Var
  gone = filter (λ v. not (var_in v new_program)) n.goal.program ++ filter (λ v. not (var_in v new_exist)) n.goal.exist

  in_dropped : (v : Var) → var_in v dropped ≡ var_in v gone
  in_dropped v =
      in_table v dropped (filter (λ w. not (var_in w used)) n.goal.program ++ filter (λ w. not (var_in w late)) n.goal.exist)
      (is_dropped ∙ sym (with_all_new_append var_eq [] (filter (λ w. not (var_in w used)) n.goal.program) (filter (λ w. not (var_in w late)) n.goal.exist)))
      ∙ (λ i. var_in v (filter (λ w. not (in_used w i)) n.goal.program ++ filter (λ w. not (in_late w i)) n.goal.exist))
      ∙ (λ i. var_in v (not_kept n.goal.program (all_used lits) i ++ not_kept n.goal.exist all_late i))

  abbrev alive : List Var
  alive = filter (λ v. not (var_in v gone)) (all_live ++ new_program)

  program_lives : (v : Var) → Among v new_program → Among v all_live
  program_lives v k =
      live_old (length n.goal.pure_pre) n.goal.pure_pre _ v (without_repeats_in var_eq Decides-var_eq v _
      (Among-left v _ (tuple_vars n.links) (Among-left v _ (lits_vars n.goal.pure_post) (Among-left v _ (chunks_vars n.goal.post.chunks) (Among-left v n.goal.program (chunks_vars n.goal.pre.chunks)
      (filter_out (λ w. var_in w (all_used lits)) v n.goal.program k).0)))))

  alive_same : (v : Var) → is_alive live dropped v ≡ var_in v alive
  alive_same v = (λ i. var_in v (is_live i) && not (in_dropped v i)) ∙ alive_in all_live new_program gone program_lives v

  link_same : (k : Link) → alive_link live dropped k ≡ record k { map = only_vars alive k.map }
  link_same k = λ i. record {
    goal = k.goal;
    own = k.own;
    map = record {
      ints = filter (λ (b : IntBind). list_all (λ v. alive_same v i) (term_vars b.to)) k.map.ints;
      sets = filter (λ (b : SetBind). list_all (λ v. alive_same v i) (set_vars b.to)) k.map.sets;
    };
    tuple = k.tuple;
  }

  links_same : (ks : List Link) → map (alive_link live dropped) ks ≡ map (λ (k : Link). record k { map = only_vars alive k.map }) ks
  links_same [] = refl
  links_same (k ∷ ks) = λ i. link_same k i ∷ links_same ks i

  pub pruned_by_tables : record { preds = n.preds; goal = record { program = program; exist = exist; pure_pre = pre; pre = n.goal.pre; pure_post = n.goal.pure_post; post = n.goal.post }; links = links } ≡ prune n
  pruned_by_tables =
      let last = are_links ∙ links_same n.links in
      λ i. record {
        preds = n.preds;
        goal = record { program = program_same i; exist = exist_same i; pure_pre = pre_same i; pre = n.goal.pre; pure_post = n.goal.pure_post; post = n.goal.post };
        links = last i;
      }
