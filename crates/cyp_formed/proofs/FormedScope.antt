-- The scope of the procedure of a text without faults of names and sorts.
use Rattle.std.proofs.Common.{List, [], ap, cond, false, flat_map, inl, inr, refl, subst, true, ℕ, ◌++◌, ◌∙◌, ◌∷◌, ◌≡◌, ◌≢◌}
use Rattle.std.specs.Prelude.{Bool}
use Rattle.std.specs.List.{list_any}
use Rattle.std.specs.Str.{bytes_eq}
use Rattle.std.proofs.lemmas.Slice.Eq.{bytes_eq-Decides}
use Rattle.cyp_lex.specs.declared.ident.Ident.{Ident}
use Rattle.cyp_lex.specs.declared.fault.FaultKind.TheVariants.{DuplicateName}
use Rattle.cyp_term.specs.declared.term.Sort.TheVariants.{Int}
use Rattle.cyp_term.proofs.Lists.{Among, Among-cases, Among-left, Among-map, Among-right, map_from, some_from}
use Rattle.cyp_names.specs.Bodies.{kept_body}
use Rattle.cyp_names.specs.NameFaults.{fault_at, param_names, repeats, set_param_fault}
use Rattle.cyp_names.specs.ReadTerms.{Scope, sort_in}
use Rattle.cyp_names.specs.Specifications.{goal_scope, universal_scope}
use Rattle.cyp_text.specs.declared.tree.ParamTree.{ParamTree}
use Rattle.cyp_text.specs.declared.tree.SortTree.{SortTree}
use Rattle.cyp_text.specs.declared.tree.SortTree.TheVariants.{IntSort, LocSort, SetSort}
use Rattle.cyp_text.specs.declared.tree.TextTree.{TextTree}
use Rattle.cyp_names.specs.Uses.{Use, param_sort, param_uses, sort_of}
use Rattle.cyp_formed.proofs.Distinct.{Distinct, distinct_all}
use Rattle.cyp_names.proofs.NoFaults.{none_both, none_each, test_false}
use Rattle.cyp_formed.proofs.PlainSorts.{ArePlain, body_plain, params_plain, plain_both}
use Rattle.cyp_names.proofs.ScopeNames.{Has, has_later}
use Rattle.cyp_names.proofs.GoalScopes.{first_uses, goal_grows, has_first, universal_grows}

-- ---- parameters

repeats_apart : (seen is : List Ident) → repeats seen is ≡ [] → (j k : Ident) → Among j seen → Among k is → j.text ≢ k.text
repeats_apart seen [] e j k m n = absurd n
repeats_apart seen (i ∷ is) e j k m (inr n) =
    repeats_apart (seen ++ i ∷ []) is (none_both _ (repeats (seen ++ i ∷ []) is) e).1 j k (Among-left j seen (i ∷ []) m) n
repeats_apart seen (i ∷ is) e j k m (inl s) = λ same.
    let test : Ident → Bool = λ (l : Ident). bytes_eq l.text i.text in
    let first : cond (list_any test seen) (fault_at DuplicateName i.place) [] ≡ [] = (none_both _ (repeats (seen ++ i ∷ []) is) e).0 in
    let no : list_any test seen ≡ false = test_false (list_any test seen) _ [] first in
    let here : bytes_eq j.text i.text ≡ true = (bytes_eq-Decides j.text i.text).1 (same ∙ ap (λ (l : Ident). l.text) s) in
    let yes : list_any test seen ≡ true = some_from test j seen m here in
    absurd cc

-- parameters whose names aren't repeated
pub distinct_params : (seen : List Ident) (ps : List ParamTree) → repeats seen (param_names ps) ≡ [] → Distinct (param_uses ps)
distinct_params seen [] e = tt
distinct_params seen (p ∷ ps) e = (first, distinct_params (seen ++ p.name ∷ []) ps more)
  where
    more : repeats (seen ++ p.name ∷ []) (param_names ps) ≡ []
    more = (none_both _ (repeats (seen ++ p.name ∷ []) (param_names ps)) e).1

    first : (w : Use) → Among w (param_uses ps) → p.name.text ≢ w.name.text
    first w m =
        let f = map_from (λ (q : ParamTree). record { name = q.name; sort = param_sort q }) w ps m in
        let in_names : Among f.0.name (param_names ps) = Among-map (λ (q : ParamTree). q.name) f.0 ps f.1 in
        λ same. repeats_apart (seen ++ p.name ∷ []) (param_names ps) more p.name f.0.name (Among-right p.name seen (p.name ∷ []) (inl refl)) in_names
        (same ∙ ap (λ (u : Use). u.name.text) f.2)

no_set : (p : ParamTree) → set_param_fault p ≡ [] → param_sort p ≡ Int
no_set p e = by_sort p.sort refl
  where
    by_sort : (s : SortTree) → p.sort ≡ s → sort_of p.sort ≡ Int
    by_sort LocSort k = ap sort_of k
    by_sort IntSort k = ap sort_of k
    by_sort SetSort k = let wrong = rw k at e in absurd cc

-- ---- sorts

pub sort_has : (us ws : Scope) (a : List ℕ) → Has us a → sort_in (us ++ ws) a ≡ sort_in us a
sort_has [] ws a h = absurd h.1
sort_has (u ∷ us) ws a h = by_test (bytes_eq u.name.text a) refl (λ e. sort_has us ws a (has_later u us a e h))
  where
    by_test : (t : Bool) → bytes_eq u.name.text a ≡ t → (bytes_eq u.name.text a ≡ false → sort_in (us ++ ws) a ≡ sort_in us a)
        → cond t u.sort (sort_in (us ++ ws) a) ≡ cond t u.sort (sort_in us a)
    by_test true e ih = refl
    by_test false e ih = ih e

sort_ints : (us : Scope) → ((u : Use) → Among u us → u.sort ≡ Int) → (a : List ℕ) → sort_in us a ≡ Int
sort_ints [] h a = refl
sort_ints (u ∷ us) h a = by_test (sort_ints us (λ w m. h w (inr m)) a) (bytes_eq u.name.text a)
  where
    by_test : sort_in us a ≡ Int → (t : Bool) → cond t u.sort (sort_in us a) ≡ Int
    by_test more true = h u (inl refl)
    by_test more false = more

-- ---- the procedure

module _ (t : TextTree) where
  pub goal_distinct : Distinct (universal_scope t ++ (goal_grows t).more)
  goal_distinct = subst (λ (us : Scope). Distinct us) (goal_grows t).parts (distinct_all (universal_scope t) (kept_body t.preds t.post) (distinct_all [] (first_uses t) tt))

  pub goal_plain : ArePlain (goal_scope t)
  goal_plain u m = elim (Among-cases u (universal_scope t) (goal_grows t).more (subst (λ (us : Scope). Among u us) (goal_grows t).parts m)) [
    | inl a ↦ firsts u ((universal_grows t).only u (subst (λ (us : Scope). Among u us) (universal_grows t).parts a))
    | inr b ↦ body_plain t.preds t.post u ((goal_grows t).only u b)
  ]
    where
      firsts : ArePlain (first_uses t)
      firsts = plain_both (param_uses t.params) (kept_body t.preds t.pre) (params_plain t.params) (body_plain t.preds t.pre)

  -- a parameter of the procedure is an integer, where none has the word `set`
  pub params_int : flat_map set_param_fault t.params ≡ [] → (u : Use) → Among u (param_uses t.params) → sort_in (goal_scope t) u.name.text ≡ Int
  params_int none u m =
      let a : List ℕ = u.name.text in
      let pars : Scope = param_uses t.params in
      let in_universal : Has (universal_scope t) a = has_first t u (Among-left u pars (kept_body t.preds t.pre) m) in
      (goal_grows t).sorts a ∙ sort_has (universal_scope t) (kept_body t.preds t.post) a in_universal ∙ (universal_grows t).sorts a
      ∙ sort_has pars (kept_body t.preds t.pre) a (u, m, refl) ∙ sort_ints pars ints a
    where
      ints : (w : Use) → Among w (param_uses t.params) → w.sort ≡ Int
      ints w k =
          let f = map_from (λ (p : ParamTree). record { name = p.name; sort = param_sort p }) w t.params k in
          ap (λ (x : Use). x.sort) f.2 ∙ no_set f.0 (none_each set_param_fault t.params none f.0 f.1)
