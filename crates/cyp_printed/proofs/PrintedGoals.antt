-- Goals that are printed: they are read as what they were, and have no faults of names and sorts.
use Rattle.std.proofs.Common.{List, [], ap, inl, inr, length, map, refl, subst, sym, true, ◌++◌, ◌∙◌, ◌∷◌, ◌≡◌, ℕ}
use Rattle.std.specs.Prelude.{cond, drop}
use Rattle.cyp_heap.specs.Limits.{is_goal_within}
use Rattle.cyp_heap.specs.declared.goal.Goal.{Goal}
use Rattle.cyp_lex.specs.declared.fault.FaultKind.TheVariants.{WrongSort}
use Rattle.cyp_term.specs.Terms.{sort_eq, with_all_new}
use Rattle.cyp_term.specs.declared.term.Sort.{Sort}
use Rattle.cyp_term.specs.declared.term.Sort.TheVariants.{Int, Set}
use Rattle.cyp_term.specs.declared.term.Var.{Var}
use Rattle.cyp_term.proofs.Lists.{Among, Among-cases, map_from}
use Rattle.cyp_names.specs.Bodies.{body_uses, kept_body}
use Rattle.cyp_names.specs.NameFaults.{chunk_faults, fault_at, name_faults, param_names, proc_faults, repeats, set_param_fault, sort_faults}
use Rattle.cyp_writing.specs.PrintedTrees.{param_tree, pure_tree, sort_tree}
use Rattle.cyp_names.specs.ReadTerms.{Scope, read_chunks, read_lits, use_var, var_named}
use Rattle.cyp_names.specs.Specifications.{goal_scope, read_goal, read_preds, universal_scope, with_cards}
use Rattle.cyp_text.specs.declared.tree.BodyTree.{BodyTree}
use Rattle.cyp_text.specs.declared.tree.ChunkTree.{ChunkTree}
use Rattle.cyp_text.specs.declared.tree.ParamTree.{ParamTree}
use Rattle.cyp_text.specs.declared.tree.TextTree.{TextTree}
use Rattle.cyp_names.specs.Uses.{Use, param_uses, same_name, sort_of}
use Rattle.cyp_formed.proofs.Distinct.{Distinct}
use Rattle.cyp_formed.proofs.FormedGoals.{params_none}
use Rattle.cyp_formed.proofs.FormedScope.{distinct_params, params_int}
use Rattle.cyp_names.proofs.GoalScopes.{first_uses, has_first, has_goal, has_last, last_names}
use Rattle.cyp_printed.proofs.PrintedAgain.{again_preds, again_text}
use Rattle.cyp_printed.proofs.PrintedBack.{IsBack}
use Rattle.cyp_printed.proofs.PrintedBodies.{again_body, body_firsts, cards_unprinted, chunks_again, chunks_right_again, kept_again, lits_again, written_again}
use Rattle.cyp_printed.proofs.PrintedFirsts.{Firsts, firsts_mapped, firsts_same}
use Rattle.cyp_formed.proofs.Maps.{drop_mapped, length_mapped, none_from}
use Rattle.cyp_formed.proofs.Nameables.{HasAll}
use Rattle.cyp_printed.proofs.PrintedNames.{printed_all_new, printed_use, read_back}
use Rattle.cyp_printed.proofs.PrintedParams.{IsPrinted, distinct_printed, no_params_twice, no_sort_faults, params_printed}
use Rattle.cyp_names.proofs.ScopeNames.{Has}
use Rattle.cyp_formed.proofs.GoalNames.{has, has_universal, in_pars, in_post, in_pre, ok, post_right, pre_right, sorted}

module _ (t : TextTree) (right : name_faults t ≡ []) (small : is_goal_within (read_goal t) ≡ true) where
  abbrev sc : Scope
  sc = goal_scope t

  abbrev pars : List Use
  pars = param_uses t.params

  abbrev kept : List Use
  kept = pars ++ kept_body t.preds t.pre ++ kept_body t.preds t.post

  -- the tree by which it is printed
  abbrev again : TextTree
  again = again_text t

  pars_distinct : Distinct pars
  pars_distinct = distinct_params [] t.params (params_none t right).0

  -- ---- the scope

  params_again : param_uses again.params ≡ map (printed_use sc) pars
  params_again = params_printed sc t.params (λ u m. sorted t right small u (in_pars t right small u m))

  pub pre_is : again.pre ≡ again_body t.preds sc t.pre
  pre_is = λ i. record { pure = pure_tree (read_lits sc t.pre); chunks = cards_unprinted (read_preds t.preds) 0 (read_chunks t.preds sc t.pre) i }

  pre_firsts : Firsts (kept_body (again_preds t.preds) again.pre) (map (printed_use sc) (kept_body t.preds t.pre))
  pre_firsts = subst (λ (us : List Use). Firsts us (map (printed_use sc) (kept_body t.preds t.pre))) (sym (ap (λ (b : BodyTree). kept_body (again_preds t.preds) b) pre_is ∙ kept_again t.preds sc t.pre (pre_right t right small))) (body_firsts t.preds sc t.pre (pre_right t right small))

  post_firsts : Firsts (kept_body (again_preds t.preds) again.post) (map (printed_use sc) (kept_body t.preds t.post))
  post_firsts = subst (λ (us : List Use). Firsts us (map (printed_use sc) (kept_body t.preds t.post))) (sym (kept_again t.preds sc t.post (post_right t right small))) (body_firsts t.preds sc t.post (post_right t right small))

  universal_again : universal_scope again ≡ map (printed_use sc) (universal_scope t)
  universal_again =
      (firsts_mapped (printed_use sc) (param_uses again.params) (kept_body (again_preds t.preds) again.pre) pars (kept_body t.preds t.pre) (firsts_same _ _ params_again) pre_firsts).alike []
      ∙ printed_all_new sc (ok t right small) [] (first_uses t) (λ u m. absurd m) (λ u m. has_goal t u.name.text (has_first t u m))

  scope_again : goal_scope again ≡ map (printed_use sc) sc
  scope_again =
      ap (λ (us : Scope). with_all_new same_name us (kept_body (again_preds t.preds) again.post)) universal_again ∙ post_firsts.alike (map (printed_use sc) (universal_scope t))
      ∙ printed_all_new sc (ok t right small) (universal_scope t) (kept_body t.preds t.post) (has_universal t right small) (λ u m. has t right small u (in_post t right small u m))

  -- ---- what is read

  abbrev printed_sc : Scope
  printed_sc = map (printed_use sc) sc

  back : (a : List ℕ) → Has sc a → IsBack printed_sc (var_named sc a)
  back a h = read_back sc (ok t right small) a h

  vars_back : (us : List Use) → HasAll sc us → map (use_var printed_sc) (map (printed_use sc) us) ≡ map (use_var sc) us
  vars_back [] h = refl
  vars_back (u ∷ us) h = λ i. back u.name.text (h u (inl refl)) i ∷ vars_back us (λ w m. h w (inr m)) i

  program_again : map (use_var printed_sc) (param_uses again.params) ≡ map (use_var sc) pars
  program_again = ap (λ (us : List Use). map (use_var printed_sc) us) params_again ∙ vars_back pars (λ u m. has t right small u (in_pars t right small u m))

  exist_again : map (use_var printed_sc) (drop (length (map (printed_use sc) (universal_scope t))) printed_sc) ≡ map (use_var sc) (drop (length (universal_scope t)) sc)
  exist_again =
      ap (λ (n : ℕ). map (use_var printed_sc) (drop n printed_sc)) (length_mapped (printed_use sc) (universal_scope t))
      ∙ ap (λ (us : List Use). map (use_var printed_sc) us) (drop_mapped (printed_use sc) (length (universal_scope t)) sc)
      ∙ vars_back (drop (length (universal_scope t)) sc) last_has
    where
      last_has : HasAll sc (drop (length (universal_scope t)) sc)
      last_has u m = has_last t u (subst (λ (us : List Use). Among u us) (last_names t) m)

  pub goal_again : read_goal again ≡ read_goal t
  goal_again = (λ i. said (scope_again i) (universal_again i) (pre_is i)) ∙ (λ i. record {
    program = program_again i;
    exist = exist_again i;
    pure_pre = lits_again t.preds sc t.pre (pre_right t right small) printed_sc pre_has back i;
    pre = record { chunks = with_cards 0 (chunks_again t.preds sc t.pre (pre_right t right small) printed_sc pre_has back i) };
    pure_post = lits_again t.preds sc t.post (post_right t right small) printed_sc post_has back i;
    post = record { chunks = chunks_again t.preds sc t.post (post_right t right small) printed_sc post_has back i };
  })
    where
      pre_has : HasAll sc (kept_body t.preds t.pre)
      pre_has u m = has t right small u (in_pre t right small u m)

      post_has : HasAll sc (kept_body t.preds t.post)
      post_has u m = has t right small u (in_post t right small u m)

      said : Scope → Scope → BodyTree → Goal
      said sd us b = record {
        program = map (use_var sd) (param_uses again.params);
        exist = map (use_var sd) (drop (length us) sd);
        pure_pre = read_lits sd b;
        pre = record { chunks = with_cards 0 (read_chunks (again_preds t.preds) sd b) };
        pure_post = read_lits sd again.post;
        post = record { chunks = read_chunks (again_preds t.preds) sd again.post };
      }

  -- ---- faults

  no_set_param : (p : ParamTree) → Among p again.params → set_param_fault p ≡ []
  no_set_param p m =
      let f = map_from param_tree p (map (use_var sc) pars) m in
      let g = map_from (use_var sc) f.0 pars f.1 in
      let is_int : f.0.sort ≡ Int = ap (λ (v : Var). v.sort) g.2 ∙ params_int t (params_none t right).1 g.0 g.1 in
      ap set_param_fault f.2 ∙ ap (λ (s : Sort). cond (sort_eq (sort_of (sort_tree s)) Set) (fault_at WrongSort 0) []) is_int

  pre_printed : (u : Use) → Among u (body_uses (again_preds t.preds) again.pre) → IsPrinted sc (ok t right small) kept u
  pre_printed u m =
      let uses : body_uses (again_preds t.preds) again.pre ≡ _ = ap (λ (b : BodyTree). body_uses (again_preds t.preds) b) pre_is ∙ written_again t.preds sc t.pre (pre_right t right small) in
      let f = map_from (printed_use sc) u (kept_body t.preds t.pre) ((body_firsts t.preds sc t.pre (pre_right t right small)).within u (subst (λ (us : List Use). Among u us) uses m)) in
      (f.0, in_pre t right small f.0 f.1, f.2)

  post_printed : (u : Use) → Among u (body_uses (again_preds t.preds) again.post) → IsPrinted sc (ok t right small) kept u
  post_printed u m =
      let f = map_from (printed_use sc) u (kept_body t.preds t.post) ((body_firsts t.preds sc t.post (post_right t right small)).within u (subst (λ (us : List Use). Among u us) (written_again t.preds sc t.post (post_right t right small)) m)) in
      (f.0, in_post t right small f.0 f.1, f.2)

  chunk_again : (c : ChunkTree) → Among c (again.pre.chunks ++ again.post.chunks) → chunk_faults (again_preds t.preds) c ≡ []
  chunk_again c m = elim (Among-cases c again.pre.chunks again.post.chunks m) [
    | inl a ↦ chunks_right_again t.preds sc t.pre (pre_right t right small) c (subst (λ (b : BodyTree). Among c b.chunks) pre_is a)
    | inr b ↦ chunks_right_again t.preds sc t.post (post_right t right small) c b
  ]

  -- the printed procedure has no faults of names and sorts
  pub proc_right_again : proc_faults again ≡ []
  proc_right_again = λ i. ((names_part i ++ none_from set_param_fault again.params no_set_param i) ++ sorts_part i) ++ none_from (chunk_faults (again_preds t.preds)) (again.pre.chunks ++ again.post.chunks) chunk_again i
    where
      names_part : repeats [] (param_names again.params) ≡ []
      names_part = no_params_twice again.params (subst (λ (us : List Use). Distinct us) (sym params_again) (distinct_printed sc (ok t right small) pars (λ u m. has t right small u (in_pars t right small u m)) pars_distinct))

      param_printed : (u : Use) → Among u (param_uses again.params) → IsPrinted sc (ok t right small) kept u
      param_printed u m = let f = map_from (printed_use sc) u pars (subst (λ (us : List Use). Among u us) params_again m) in (f.0, in_pars t right small f.0 f.1, f.2)

      use_printed : (u : Use) → Among u (body_uses (again_preds t.preds) again.pre ++ body_uses (again_preds t.preds) again.post) → IsPrinted sc (ok t right small) kept u
      use_printed u m = elim (Among-cases u (body_uses (again_preds t.preds) again.pre) (body_uses (again_preds t.preds) again.post) m) [ inl a ↦ pre_printed u a | inr b ↦ post_printed u b ]

      sorts_part : sort_faults (param_uses again.params) (body_uses (again_preds t.preds) again.pre ++ body_uses (again_preds t.preds) again.post) ≡ []
      sorts_part = no_sort_faults sc (ok t right small) kept (has t right small) (sorted t right small) (param_uses again.params) (body_uses (again_preds t.preds) again.pre ++ body_uses (again_preds t.preds) again.post) param_printed use_printed
