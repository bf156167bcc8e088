-- The limits of a predicate as its tree tells them, and its clauses one by one.
use Rattle.std.proofs.Common.{◌≡◌, ◌∙◌, [], ◌&&◌, List, Bool, true, drop, false, flat_map, get_or, length, nat_le, ℕ, suc, ◌+◌, ◌<◌, ◌≤◌, refl, ap, subst, sym, inl, arith}
use Rattle.std.specs.List.{All, list_all}
use Rattle.std.proofs.lemmas.Bool.{and_parts, le-leb, lt-leb}
use Rattle.std.proofs.lemmas.List.{length-map}
use Rattle.std.proofs.lemmas.List.Folds.{list_all_at}
use Rattle.cyp_goal.proofs.Maps.{list_all-map}
use Rattle.cyp_goal.proofs.Occurring.{among_at as there}
use Rattle.cyp_heap.specs.PredsFormed.{is_clause_within}
use Rattle.cyp_term.proofs.Lists.{Among, each_at}
use Rattle.cyp_term.proofs.Turns.{drop_here}
use Rattle.cyp_names.proofs.NoFaults.{none_both, none_each}
use Rattle.cyp_names.specs.PredFaults.{is_pred_within}
use Rattle.cyp_names.specs.NameFaults.{clause_faults, clauses, param_names, pred_faults, repeats}
use Rattle.cyp_names.specs.Specifications.{read_clause, read_pred}
use Rattle.cyp_names.specs.Uses.{param_sort}
use Rattle.cyp_text.specs.declared.tree.ClauseTree.{ClauseTree}
use Rattle.cyp_text.specs.declared.tree.PredTree.{PredTree}

-- ---- items of lists

pub among_at : {A : Type 0} (xs : List A) (i : ℕ) (d : A) → i < length xs → d ≡ get_or xs i d → Among d xs
among_at xs i d l e = subst (λ (y : _). Among y xs) (sym e) (there xs i d l)

pub all_at : {A : Type 0} (P : A → Type 0) (xs : List A) (i : ℕ) (d : A) → All P xs → i < length xs → d ≡ get_or xs i d → P d
all_at P xs i d h l e = subst P (sym e) (h i d l)

-- ---- a loop that tests each item

module _ {A : Type 0} (test : A → Bool) (xs : List A) (i : ℕ) (d : A) (l : i < length xs) (at : d ≡ get_or xs i d) where
  abbrev rest : Bool
  rest = list_all test (drop (i + 1) xs)

  here : list_all test (drop i xs) ≡ (test d && rest)
  here = ap (list_all test) (drop_here xs i d l) ∙ ap (λ (x : A). test x && rest) (sym at)

  -- one that fails decides
  pub one_fails : test d ≡ false → false ≡ list_all test xs
  one_fails e = sym (list_all_at test xs i d l (ap test (sym at) ∙ e))

  -- one that passes leaves the others
  pub all_go_on : test d ≡ true → list_all test (drop i xs) ≡ list_all test xs → rest ≡ list_all test xs
  all_go_on e h = sym (here ∙ ap (λ (b : Bool). b && rest) e) ∙ h

-- ---- a predicate

module _ (qs : List PredTree) (q : PredTree) where
  abbrev within : ClauseTree → Bool
  within c = is_clause_within (read_clause qs q.params c)

  abbrev few_params : Bool
  few_params = nat_le (length q.params) 8

  abbrev few_clauses : Bool
  few_clauses = nat_le (suc (length q.others)) 8

  within_is : is_pred_within (read_pred qs q) ≡ (few_params && few_clauses && (within q.first && list_all within q.others))
  within_is = λ i.
      nat_le (length-map q.params param_sort i) 8 && nat_le (suc (length-map q.others (read_clause qs q.params) i)) 8
      && (within q.first && list_all-map (read_clause qs q.params) within is_clause_within (λ c. refl) q.others i)

  pub many_params : 8 < length q.params → false ≡ is_pred_within (read_pred qs q)
  many_params h = sym (within_is ∙ ap (λ (b : Bool). b && few_clauses && (within q.first && list_all within q.others)) (lt-leb (length q.params) 8 h))

  second_fails : (a b c : Bool) → b ≡ false → (a && b && c) ≡ false
  second_fails true b c h = ap (λ (x : Bool). x && c) h
  second_fails false b c h = refl

  third_fails : (a b c d : Bool) → c ≡ false → (a && b && (c && d)) ≡ false
  third_fails true true c d h = ap (λ (x : Bool). x && d) h
  third_fails true false c d h = refl
  third_fails false b c d h = refl

  pub many_others : 7 < length q.others → false ≡ is_pred_within (read_pred qs q)
  many_others h = sym (within_is ∙ second_fails few_params few_clauses (within q.first && list_all within q.others) (lt-leb (suc (length q.others)) 8 (omega (arith, h))))

  pub first_fails : within q.first ≡ false → false ≡ is_pred_within (read_pred qs q)
  first_fails h = sym (within_is ∙ third_fails few_params few_clauses (within q.first) (list_all within q.others) h)

  pub others_decide : length q.params ≤ 8 → length q.others ≤ 7 → within q.first ≡ true → (b : Bool) → b ≡ list_all within q.others → b ≡ is_pred_within (read_pred qs q)
  others_decide h k l b e =
      e ∙ sym (within_is
      ∙ ap (λ (x : Bool). x && few_clauses && (within q.first && list_all within q.others)) (le-leb (length q.params) 8 h)
      ∙ ap (λ (x : Bool). x && (within q.first && list_all within q.others)) (le-leb (suc (length q.others)) 8 (omega (arith, k)))
      ∙ ap (λ (x : Bool). x && list_all within q.others) l)

  -- each clause of a predicate within the limits is within them
  pub each_within : is_pred_within (read_pred qs q) ≡ true → (c : ClauseTree) → Among c (clauses q) → within c ≡ true
  each_within e = λ c m. each_at within c (clauses q) (and_parts (few_params && few_clauses) (within q.first && list_all within q.others) (sym within_is ∙ e)).1 m

  module _ (right : pred_faults qs q ≡ []) where
    pub params_once : repeats [] (param_names q.params) ≡ []
    params_once = (none_both (repeats [] (param_names q.params)) (flat_map (clause_faults qs q.params) (clauses q)) right).0

    pub all_right : flat_map (clause_faults qs q.params) (clauses q) ≡ []
    all_right = (none_both (repeats [] (param_names q.params)) (flat_map (clause_faults qs q.params) (clauses q)) right).1

    pub each_right : (c : ClauseTree) → Among c (clauses q) → clause_faults qs q.params c ≡ []
    each_right = none_each (clause_faults qs q.params) (clauses q) all_right

    pub first_right : clause_faults qs q.params q.first ≡ []
    first_right = each_right q.first (inl refl)

    pub others_right : flat_map (clause_faults qs q.params) q.others ≡ []
    others_right = (none_both (clause_faults qs q.params q.first) (flat_map (clause_faults qs q.params) q.others) all_right).1
