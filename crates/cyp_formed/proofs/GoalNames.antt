-- The names of a goal that is read, where it has no faults of names and sorts and is within the limits: they are few, and the scope has each.
use Rattle.std.proofs.Common.{List, [], flat_map, inl, inr, map, refl, true, ◌++◌, ◌≡◌}
use Rattle.cyp_heap.specs.Limits.{is_goal_within}
use Rattle.cyp_term.proofs.Lists.{Among, Among-cases, Among-left, Among-right}
use Rattle.cyp_names.specs.Bodies.{body_uses, kept_body}
use Rattle.cyp_names.specs.NameFaults.{chunk_faults, name_faults, param_names, pred_faults, proc_faults, repeats, set_param_fault, sort_faults}
use Rattle.cyp_names.specs.ReadTerms.{Scope, sort_in}
use Rattle.cyp_names.specs.Specifications.{goal_scope, read_goal, universal_scope}
use Rattle.cyp_text.specs.declared.tree.ChunkTree.{ChunkTree}
use Rattle.cyp_text.specs.declared.tree.PredTree.{PredTree}
use Rattle.cyp_text.specs.declared.tree.TextTree.{TextTree}
use Rattle.cyp_names.specs.Uses.{Use, param_uses}
use Rattle.cyp_names.proofs.NoFaults.{none_both, none_each}
use Rattle.cyp_formed.proofs.FormedScope.{goal_plain}
use Rattle.cyp_names.proofs.GoalScopes.{goal_grows, has_first, has_goal}
use Rattle.cyp_formed.proofs.FormedSorts.{name_sort}
use Rattle.cyp_formed.proofs.FewNames.{few_names}
use Rattle.cyp_formed.proofs.Nameables.{HasAll, Nameable}

module _ (t : TextTree) (right : name_faults t ≡ []) (small : is_goal_within (read_goal t) ≡ true) where
  abbrev sc : Scope
  sc = goal_scope t

  abbrev pars : List Use
  pars = param_uses t.params

  abbrev kept : List Use
  kept = pars ++ kept_body t.preds t.pre ++ kept_body t.preds t.post

  pub chunk_right : (c : ChunkTree) → Among c (t.pre.chunks ++ t.post.chunks) → chunk_faults t.preds c ≡ []
  chunk_right =
      none_each (chunk_faults t.preds) (t.pre.chunks ++ t.post.chunks)
      (none_both (repeats [] (param_names t.params) ++ flat_map set_param_fault t.params ++ sort_faults pars (body_uses t.preds t.pre ++ body_uses t.preds t.post)) (flat_map (chunk_faults t.preds) (t.pre.chunks ++ t.post.chunks))
      (none_both (repeats [] (map (λ (q : PredTree). q.name) t.preds) ++ flat_map (pred_faults t.preds) t.preds) (proc_faults t) right).1).1

  pub pre_right : (c : ChunkTree) → Among c t.pre.chunks → chunk_faults t.preds c ≡ []
  pre_right c m = chunk_right c (Among-left c t.pre.chunks t.post.chunks m)

  pub post_right : (c : ChunkTree) → Among c t.post.chunks → chunk_faults t.preds c ≡ []
  post_right c m = chunk_right c (Among-right c t.pre.chunks t.post.chunks m)

  pub sorted : (u : Use) → Among u kept → sort_in sc u.name.text ≡ u.sort
  sorted u m = name_sort t right u m

  pub in_pars : (u : Use) → Among u pars → Among u kept
  in_pars u m = Among-left u (pars ++ kept_body t.preds t.pre) (kept_body t.preds t.post) (Among-left u pars (kept_body t.preds t.pre) m)

  pub in_pre : (u : Use) → Among u (kept_body t.preds t.pre) → Among u kept
  in_pre u m = Among-left u (pars ++ kept_body t.preds t.pre) (kept_body t.preds t.post) (Among-right u pars (kept_body t.preds t.pre) m)

  pub in_post : (u : Use) → Among u (kept_body t.preds t.post) → Among u kept
  in_post u m = Among-right u (pars ++ kept_body t.preds t.pre) (kept_body t.preds t.post) m

  pub has : HasAll sc kept
  has u m = elim (Among-cases u (pars ++ kept_body t.preds t.pre) (kept_body t.preds t.post) m) [
    | inl a ↦ has_goal t u.name.text (has_first t u a)
    | inr b ↦ (goal_grows t).new_there u b
  ]

  pub has_universal : HasAll sc (universal_scope t)
  has_universal u m = has_goal t u.name.text (u, m, refl)

  pub ok : Nameable sc
  ok = record { plain = goal_plain t; few_ints = (few_names t chunk_right sorted small).0; few_sets = (few_names t chunk_right sorted small).1 }
