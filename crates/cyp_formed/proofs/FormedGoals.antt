-- Each goal that is read is formed.
use Rattle.std.proofs.Common.{List, [], ap, false, filter, flat_map, inl, inr, length, map, not, refl, subst, sym, true, ◌++◌, ◌∙◌, ◌∷◌, ◌≡◌, ◌≢◌, ◌⊎◌}
use Rattle.std.specs.Prelude.{Bool, drop}
use Rattle.std.specs.List.{list_all}
use Rattle.std.proofs.lemmas.Bool.{and_from}
use Rattle.std.proofs.lemmas.Grind.{flat_map-append}
use Rattle.std.proofs.lemmas.List.Folds.{list_all-append}
use Rattle.cyp_heap.specs.Chunks.{chunks_vars, insts}
use Rattle.cyp_heap.specs.Formed.{IsFormed, all_differ, inst_fits, term_part_vars}
use Rattle.cyp_heap.specs.declared.chunk.Chunk.{Chunk}
use Rattle.cyp_heap.specs.declared.chunk.InstOf.{InstOf}
use Rattle.cyp_lex.specs.declared.fault.Fault.{Fault}
use Rattle.cyp_term.specs.Terms.{lits_vars, sort_eq, var_in}
use Rattle.cyp_term.specs.declared.term.Sort.TheVariants.{Card, Int}
use Rattle.cyp_term.specs.declared.term.Var.{Var}
use Rattle.cyp_term.proofs.Equality.{Decides-sort_eq}
use Rattle.cyp_term.proofs.Lists.{Among, Among-cases, Among-left, Among-right, each_from, map_from}
use Rattle.cyp_names.specs.Bodies.{body_uses, in_kinds, kept_body}
use Rattle.cyp_names.specs.NameFaults.{chunk_faults, name_faults, param_names, pred_faults, proc_faults, repeats, set_param_fault, sort_faults}
use Rattle.cyp_names.specs.ReadTerms.{Scope, read_chunks, read_lits, use_var}
use Rattle.cyp_names.specs.Specifications.{goal_scope, read_goal, read_preds, universal_scope, with_cards}
use Rattle.cyp_text.specs.declared.tree.ChunkTree.{ChunkTree}
use Rattle.cyp_text.specs.declared.tree.PredTree.{PredTree}
use Rattle.cyp_text.specs.declared.tree.TextTree.{TextTree}
use Rattle.cyp_names.specs.Uses.{Use, param_uses}
use Rattle.cyp_formed.proofs.Distinct.{differ_mapped, distinct_apart, distinct_right, not_in}
use Rattle.cyp_formed.proofs.FormedCards.{all_cards, cards_differ, fits_with_cards, no_cards, part_or_card, parts_with_cards}
use Rattle.cyp_formed.proofs.FormedInstances.{chunks_fit, kinds_among}
use Rattle.cyp_names.proofs.NoFaults.{none_both, none_each}
use Rattle.cyp_formed.proofs.FormedScope.{distinct_params, goal_distinct, goal_plain, params_int}
use Rattle.cyp_names.proofs.GoalScopes.{first_uses, goal_grows, has_first, has_goal, has_last, last_names}
use Rattle.cyp_formed.proofs.Names.{Comes, chunks_come, lits_come}
use Rattle.cyp_formed.proofs.PlainSorts.{sort_plain}
use Rattle.cyp_names.proofs.ScopeNames.{Has, vars_differ}

not_card_test : (v : Var) → v.sort ≢ Card → sort_eq v.sort Card ≡ false
not_card_test v n = by_test (sort_eq v.sort Card) refl
  where
    by_test : (b : Bool) → sort_eq v.sort Card ≡ b → b ≡ false
    by_test false e = refl
    by_test true e = absurd (n ((Decides-sort_eq v.sort Card).0 e))

none_kept : {A : Type 0} (test : A → Bool) (xs : List A) → ((x : A) → Among x xs → test x ≡ false) → filter test xs ≡ []
none_kept test [] h = refl
none_kept test (x ∷ xs) h = rw (h x (inl refl)) (none_kept test xs (λ y m. h y (inr m)))

insts_append : (cs ds : List Chunk) (test : InstOf → Bool) → list_all test (insts cs) ≡ true → list_all test (insts ds) ≡ true → list_all test (insts cs ++ insts ds) ≡ true
insts_append cs ds test a b = list_all-append test (insts cs) (insts ds) ∙ and_from _ _ a b

module _ (t : TextTree) (none : name_faults t ≡ []) where
  abbrev sc : Scope
  sc = goal_scope t

  proc_none : proc_faults t ≡ []
  proc_none = (none_both (repeats [] (map (λ (q : PredTree). q.name) t.preds) ++ flat_map (pred_faults t.preds) t.preds) (proc_faults t) none).1

  abbrev sorts : List Fault
  sorts = sort_faults (param_uses t.params) (body_uses t.preds t.pre ++ body_uses t.preds t.post)

  parts_none : (((repeats [] (param_names t.params) ++ flat_map set_param_fault t.params) ++ sorts) ≡ []) × (flat_map (chunk_faults t.preds) (t.pre.chunks ++ t.post.chunks) ≡ [])
  parts_none = none_both _ (flat_map (chunk_faults t.preds) (t.pre.chunks ++ t.post.chunks)) proc_none

  pub params_none : (repeats [] (param_names t.params) ≡ []) × (flat_map set_param_fault t.params ≡ [])
  params_none = none_both _ (flat_map set_param_fault t.params) (none_both (repeats [] (param_names t.params) ++ flat_map set_param_fault t.params) sorts parts_none.0).0

  pub sorts_none : sorts ≡ []
  sorts_none = (none_both (repeats [] (param_names t.params) ++ flat_map set_param_fault t.params) sorts parts_none.0).1

  chunk_none : (c : ChunkTree) → Among c (t.pre.chunks ++ t.post.chunks) → chunk_faults t.preds c ≡ []
  chunk_none = none_each (chunk_faults t.preds) (t.pre.chunks ++ t.post.chunks) parts_none.1

  -- no variable that comes from a name is a cardinality
  comes_plain : (us : List Use) (v : Var) → Comes sc us v → v.sort ≢ Card
  comes_plain us v c e = sort_plain sc c.0.name.text (goal_plain t) (sym (ap (λ (w : Var). w.sort) c.2) ∙ e)

  mapped_plain : (us : List Use) (v : Var) → Among v (map (use_var sc) us) → v.sort ≢ Card
  mapped_plain us v m = let f = map_from (use_var sc) v us m in comes_plain us v (f.0, f.1, f.2)

  -- an existential is no variable of the parameters and the precondition
  apart_last : (u : Use) → Among u (goal_grows t).more → (w : Var) → Comes sc (first_uses t) w → use_var sc u ≢ w
  apart_last u m w c e =
      let h = has_first t c.0 c.1 in
      let differ : u.name.text ≢ c.0.name.text =
      λ same. distinct_apart (universal_scope t) (goal_grows t).more (goal_distinct t) h.0 u h.1 m (h.2 ∙ sym same) in
      vars_differ sc u.name.text c.0.name.text (has_last t u m) (has_goal t c.0.name.text h) differ (e ∙ c.2)

  -- ---- the parts of the goal

  abbrev program : List Var
  program = map (use_var sc) (param_uses t.params)

  abbrev exist : List Var
  exist = map (use_var sc) (drop (length (universal_scope t)) sc)

  abbrev lits_pre : List Var
  lits_pre = lits_vars (read_lits sc t.pre)

  abbrev lits_post : List Var
  lits_post = lits_vars (read_lits sc t.post)

  abbrev chunks_pre : List Chunk
  chunks_pre = read_chunks t.preds sc t.pre

  abbrev chunks_post : List Chunk
  chunks_post = read_chunks t.preds sc t.post

  -- a variable of the precondition, but for its cardinalities
  in_first : (w : Var) → Comes sc (kept_body t.preds t.pre) w → Comes sc (first_uses t) w
  in_first w c = (c.0, Among-right c.0 (param_uses t.params) (kept_body t.preds t.pre) c.1, c.2)

  taken_comes : (w : Var) → Among w (program ++ lits_pre ++ chunks_vars (with_cards 0 chunks_pre)) → Comes sc (first_uses t) w ⊎ (w.sort ≡ Card)
  taken_comes w m = elim (Among-cases w (program ++ lits_pre) (chunks_vars (with_cards 0 chunks_pre)) m) [
    | inl a ↦ elim (Among-cases w program lits_pre a) [ inl b ↦ inl (of_program b) | inr b ↦ inl (in_first w (lits_come sc w t.preds t.pre b)) ]
    | inr a ↦ elim (part_or_card 0 chunks_pre w a) [ inl b ↦ inl (in_first w (chunks_come sc w t.preds t.pre b)) | inr e ↦ inr e ]
  ]
    where
      of_program : Among w program → Comes sc (first_uses t) w
      of_program b = let f = map_from (use_var sc) w (param_uses t.params) b in (f.0, Among-left f.0 (param_uses t.params) (kept_body t.preds t.pre) f.1, f.2)

  exist_is : exist ≡ map (use_var sc) (goal_grows t).more
  exist_is = ap (λ (us : Scope). map (use_var sc) us) (last_names t)

  exist_not_taken : (v : Var) → Among v exist → not (var_in v (program ++ lits_pre ++ chunks_vars (with_cards 0 chunks_pre))) ≡ true
  exist_not_taken v m = ap not (not_in v _ (λ w k. by_kind w (taken_comes w k)))
    where
      f : (u : Use) × Among u (goal_grows t).more × (v ≡ use_var sc u)
      f = map_from (use_var sc) v (goal_grows t).more (subst (λ (vs : List Var). Among v vs) exist_is m)

      by_kind : (w : Var) → Comes sc (first_uses t) w ⊎ (w.sort ≡ Card) → v ≢ w
      by_kind w (inl c) = λ e. apart_last f.0 f.1 w c (sym f.2 ∙ e)
      by_kind w (inr c) = λ e. mapped_plain (drop (length (universal_scope t)) sc) v m (ap (λ (x : Var). x.sort) e ∙ c)

  -- ---- no variable of sort Card

  parts_plain : (v : Var) → Among v (flat_map term_part_vars (with_cards 0 chunks_pre ++ chunks_post)) → v.sort ≢ Card
  parts_plain v m = by_part (Among-cases v (flat_map term_part_vars (with_cards 0 chunks_pre)) _ (subst (λ (vs : List Var). Among v vs) (flat_map-append term_part_vars (with_cards 0 chunks_pre) chunks_post) m))
    where
      by_part : Among v (flat_map term_part_vars (with_cards 0 chunks_pre)) ⊎ Among v (flat_map term_part_vars chunks_post) → v.sort ≢ Card
      by_part (inl a) = comes_plain _ v (chunks_come sc v t.preds t.pre (subst (λ (vs : List Var). Among v vs) (parts_with_cards 0 chunks_pre) a))
      by_part (inr a) = comes_plain _ v (chunks_come sc v t.preds t.post a)

  all_plain : (v : Var) → Among v (program ++ exist ++ lits_pre ++ lits_post ++ flat_map term_part_vars (with_cards 0 chunks_pre ++ chunks_post)) → v.sort ≢ Card
  all_plain v m = elim (Among-cases v (program ++ exist ++ lits_pre ++ lits_post) _ m) [
    | inr a ↦ parts_plain v a
    | inl a ↦ elim (Among-cases v (program ++ exist ++ lits_pre) lits_post a) [
      | inr b ↦ comes_plain _ v (lits_come sc v t.preds t.post b)
      | inl b ↦ elim (Among-cases v (program ++ exist) lits_pre b) [
        | inr c ↦ comes_plain _ v (lits_come sc v t.preds t.pre c)
        | inl c ↦ elim (Among-cases v program exist c) [ inl d ↦ mapped_plain (param_uses t.params) v d | inr d ↦ mapped_plain _ v d ]
      ]
    ]
  ]

  -- ---- the goal

  sorts_int : (v : Var) → Among v program → sort_eq v.sort Int ≡ true
  sorts_int v m =
      let f = map_from (use_var sc) v (param_uses t.params) m in
      (Decides-sort_eq v.sort Int).1 (ap (λ (w : Var). w.sort) f.2 ∙ params_int t params_none.1 f.0 f.1)

  has_param : (u : Use) → Among u (param_uses t.params) → Has sc u.name.text
  has_param u m = has_goal t u.name.text (has_first t u (Among-left u (param_uses t.params) (kept_body t.preds t.pre) m))

  pre_fits : list_all (inst_fits (read_preds t.preds)) (insts (with_cards 0 chunks_pre)) ≡ true
  pre_fits =
      fits_with_cards (read_preds t.preds) 0 chunks_pre
      ∙ chunks_fit t.preds sc (in_kinds t.pre.chunks) (λ c m. chunk_none c (Among-left c t.pre.chunks t.post.chunks (kinds_among t.pre.chunks c m)))

  post_fits : list_all (inst_fits (read_preds t.preds)) (insts chunks_post) ≡ true
  post_fits = chunks_fit t.preds sc (in_kinds t.post.chunks) (λ c m. chunk_none c (Among-right c t.pre.chunks t.post.chunks (kinds_among t.post.chunks c m)))

  pub formed : IsFormed (read_preds t.preds) (read_goal t)
  formed = record {
    instances_fit = insts_append (with_cards 0 chunks_pre) chunks_post (inst_fits (read_preds t.preds)) pre_fits post_fits;
    program_int = each_from (λ (v : Var). sort_eq v.sort Int) program sorts_int;
    program_differs = differ_mapped sc (param_uses t.params) has_param (distinct_params [] t.params params_none.0);
    exist_differs = ap all_differ exist_is ∙ differ_mapped sc (goal_grows t).more (has_last t) (distinct_right (universal_scope t) (goal_grows t).more (goal_distinct t));
    exist_apart = each_from (λ v. not (var_in v (program ++ lits_pre ++ chunks_vars (with_cards 0 chunks_pre)))) exist exist_not_taken;
    pre_cards = all_cards 0 chunks_pre;
    post_cards = no_cards t.preds sc (in_kinds t.post.chunks);
    cards_differ = cards_differ 0 chunks_pre;
    cards_alone = none_kept (λ (v : Var). sort_eq v.sort Card) _ (λ v m. not_card_test v (all_plain v m));
  }
