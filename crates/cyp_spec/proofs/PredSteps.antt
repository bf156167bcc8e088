-- What the code of a predicate's limits knows at each step.
use Rattle.std.proofs.Common.{[], ◌≡◌, ◌∙◌, List, Bool, true, false, flat_map, get_or, length, ℕ, ◌<◌, ◌≤◌, ap, subst, sym, inl, inr, refl}
use Rattle.std.specs.List.{All, list_all}
use Rattle.cyp_heap.specs.PredsFormed.{is_clause_within}
use Rattle.cyp_spec.proofs.PredTests.{all_at, among_at, each_right, each_within, first_fails, first_right, many_others, many_params, others_decide, others_right, params_once}
use Rattle.cyp_spec.specs.Small.{ClauseSmall, PredSmall}
use Rattle.cyp_term.proofs.Lists.{Among}
use Rattle.cyp_names.specs.PredFaults.{is_pred_within}
use Rattle.cyp_names.specs.NameFaults.{clause_faults, param_names, pred_faults, repeats}
use Rattle.cyp_names.specs.Specifications.{read_clause, read_pred}
use Rattle.cyp_text.specs.declared.tree.ClauseTree.{ClauseTree}
use Rattle.cyp_text.specs.declared.tree.ParamTree.{ParamTree}
use Rattle.cyp_text.specs.declared.tree.PredTree.{PredTree}

-- each clause of a predicate with these parameters is within the limits
abbrev pub are_within : List PredTree → List ParamTree → List ClauseTree → Bool
are_within qs ps cs = list_all (λ (c : ClauseTree). is_clause_within (read_clause qs ps c)) cs

module _ (qs : List PredTree) (q : PredTree) (ps : List ParamTree) (is : ps ≡ q.params) (cs : List ClauseTree) (are : cs ≡ q.others) where
  -- ---- without faults of names

  module _ (right : pred_faults qs q ≡ []) where
    pub once_at : repeats [] (param_names ps) ≡ []
    once_at = subst (λ (us : List ParamTree). repeats [] (param_names us) ≡ []) (sym is) (params_once qs q right)

    pub first_right_at : clause_faults qs ps q.first ≡ []
    first_right_at = subst (λ (us : List ParamTree). clause_faults qs us q.first ≡ []) (sym is) (first_right qs q right)

    pub others_right_at : flat_map (clause_faults qs ps) cs ≡ []
    others_right_at =
        subst (λ (us : List ParamTree). flat_map (clause_faults qs us) cs ≡ []) (sym is) (subst (λ (ds : List ClauseTree). flat_map (clause_faults qs q.params) ds ≡ []) (sym are) (others_right qs q right))

    pub item_right_at : (i : ℕ) (d : ClauseTree) → i < length cs → d ≡ get_or cs i d → clause_faults qs ps d ≡ []
    item_right_at i d l e =
        subst (λ (us : List ParamTree). clause_faults qs us d ≡ []) (sym is) (each_right qs q right d (inr (subst (λ (ds : List ClauseTree). Among d ds) are (among_at cs i d l e))))

  -- ---- small numbers

  module _ (small : PredSmall q) where
    pub first_small : ClauseSmall q.first
    first_small = small.0

    pub others_small_at : All ClauseSmall cs
    others_small_at = subst (λ (ds : List ClauseTree). All ClauseSmall ds) (sym are) small.1

    pub item_small_at : (i : ℕ) (d : ClauseTree) → i < length cs → d ≡ get_or cs i d → ClauseSmall d
    item_small_at i d l e = all_at ClauseSmall cs i d others_small_at l e

  -- ---- limits

  pub many_params_at : 8 < length ps → false ≡ is_pred_within (read_pred qs q)
  many_params_at h = many_params qs q (subst (λ (us : List ParamTree). 8 < length us) is h)

  pub many_others_at : 7 < length cs → false ≡ is_pred_within (read_pred qs q)
  many_others_at h = many_others qs q (subst (λ (ds : List ClauseTree). 7 < length ds) are h)

  first_is : (b w : Bool) → b ≡ is_clause_within (read_clause qs ps q.first) → b ≡ w → is_clause_within (read_clause qs q.params q.first) ≡ w
  first_is b w e h = sym (e ∙ ap (λ (us : List ParamTree). is_clause_within (read_clause qs us q.first)) is) ∙ h

  pub first_fails_at : (b : Bool) → b ≡ is_clause_within (read_clause qs ps q.first) → b ≡ false → false ≡ is_pred_within (read_pred qs q)
  first_fails_at b e h = first_fails qs q (first_is b false e h)

  pub others_decide_at : length ps ≤ 8 → length cs ≤ 7 → (b : Bool) → b ≡ is_clause_within (read_clause qs ps q.first) → b ≡ true → (f : Bool) → f ≡ are_within qs ps cs → f ≡ is_pred_within (read_pred qs q)
  others_decide_at few_ps few_cs b e h f told =
      others_decide qs q (subst (λ (us : List ParamTree). length us ≤ 8) is few_ps) (subst (λ (ds : List ClauseTree). length ds ≤ 7) are few_cs) (first_is b true e h) f
      (told ∙ (λ i. are_within qs (is i) (are i)))

  module _ (within : is_pred_within (read_pred qs q) ≡ true) where
    pub first_within_at : is_clause_within (read_clause qs ps q.first) ≡ true
    first_within_at = subst (λ (us : List ParamTree). is_clause_within (read_clause qs us q.first) ≡ true) (sym is) (each_within qs q within q.first (inl refl))

    pub item_within_at : (i : ℕ) (d : ClauseTree) → i < length cs → d ≡ get_or cs i d → is_clause_within (read_clause qs ps d) ≡ true
    item_within_at i d l e =
        subst (λ (us : List ParamTree). is_clause_within (read_clause qs us d) ≡ true) (sym is) (each_within qs q within d (inr (subst (λ (ds : List ClauseTree). Among d ds) are (among_at cs i d l e))))
