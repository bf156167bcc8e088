-- When a literal can't be solved, and what it is solved by where it can.
use Rattle.std.proofs.Common.{◌≡◌, ◌∙◌, ◌⊎◌, [], ◌∷◌, ◌++◌, List, Option, Some, None, Bool, true, false, cond, ◌&&◌, not, map, neg_ℤ, refl, ap₂, sym, inl, inr, subst, ⊎_elim}
use Rattle.std.specs.Option.{is_none}
use Rattle.std.proofs.lemmas.Bool.{and_from, and_parts, both_ways, cond-false, false_from_ne_true, false≢true}
use Rattle.std.proofs.lemmas.Option.{cond_some, none-some}
use Rattle.cyp_goal.proofs.Fits.{ImagesFit}
use Rattle.cyp_goal.proofs.Rename.{IsRenaming, base_eq-rename, rename_base, rename_lit, rename_set, rename_term}
use Rattle.cyp_goal.proofs.RenameVars.{var_in-rename}
use Rattle.cyp_goal.specs.Solving.{bind_int, bind_set, first_some, solved_any, solved_base, solved_eq, solved_parts, solved_set, solved_side}
use Rattle.cyp_goal.specs.Raw.{lit_fits, set_fits, term_fits}
use Rattle.cyp_term.proofs.Equality.{Decides-var_eq}
use Rattle.cyp_term.proofs.Lists.{Among, Among-left, Among-right}
use Rattle.cyp_term.specs.Terms.{base_eq, base_vars, int_image, lit_vars, plus, set_image, sort_eq, term_vars, var_eq, var_in}
use Rattle.cyp_term.specs.declared.lit.Lit.{Lit}
use Rattle.cyp_term.specs.declared.lit.Lit.TheVariants.{Eq, Same}
use Rattle.cyp_term.specs.declared.lit.SetTerm.{SetTerm}
use Rattle.cyp_term.specs.declared.subst.Subst.{Subst}
use Rattle.cyp_term.specs.declared.term.Sort.TheVariants.{Int}
use Rattle.cyp_term.specs.declared.term.Term.{Term}
use Rattle.cyp_term.specs.declared.term.Var.{Var}

none_cond : {A : Type 0} (c : Bool) (x : A) → is_none (cond c (Some x) None) ≡ not c
none_cond true x = refl
none_cond false x = refl

none_first : {A : Type 0} (a b : Option A) → is_none (first_some a b) ≡ (is_none a && is_none b)
none_first None b = refl
none_first (Some x) b = refl

first_some_cases : {A : Type 0} (a b : Option A) (x : A) → first_some a b ≡ Some x → (a ≡ Some x) ⊎ (b ≡ Some x)
first_some_cases None b x e = inr e
first_some_cases (Some y) b x e = inl e

-- ---- fewer variables to solve for
module _ (test test' : Var → Bool) where
  none_less : (a t t' b : Bool) → (t' ≡ true → t ≡ true) → not (a && t && b) ≡ true → not (a && t' && b) ≡ true
  none_less false t t' b h e = refl
  none_less true t false b h e = refl
  none_less true true true b h e = e
  none_less true false true b h e = absurd (false≢true (h refl))

  base_less : (b : Option Var) (s t : Term) → ((v : Var) → Among v (base_vars b) → test' v ≡ true → test v ≡ true)
      → is_none (solved_base test b s t) ≡ true → is_none (solved_base test' b s t) ≡ true
  base_less None s t h e = refl
  base_less (Some v) s t h e =
      none_cond (sort_eq v.sort Int && test' v && not (base_eq (Some v) t.base)) (bind_int v (plus t (neg_ℤ s.offset)))
      ∙ none_less (sort_eq v.sort Int) (test v) (test' v) (not (base_eq (Some v) t.base)) (h v (inl refl))
      (sym (none_cond (sort_eq v.sort Int && test v && not (base_eq (Some v) t.base)) (bind_int v (plus t (neg_ℤ s.offset)))) ∙ e)

  parts_less : (vs : List Var) (es : List Term) (t : SetTerm) → ((v : Var) → Among v vs → test' v ≡ true → test v ≡ true)
      → is_none (solved_parts test vs es t) ≡ true → is_none (solved_parts test' vs es t) ≡ true
  parts_less (v ∷ []) [] t h e =
      none_cond (test' v && not (var_in v t.vars)) (bind_set v t)
      ∙ none_less true (test v) (test' v) (not (var_in v t.vars)) (h v (inl refl)) (sym (none_cond (test v && not (var_in v t.vars)) (bind_set v t)) ∙ e)
  parts_less _ _ t h e = refl

  both_less : (a b a' b' : Option Subst) → (is_none a ≡ true → is_none a' ≡ true) → (is_none b ≡ true → is_none b' ≡ true)
      → is_none (first_some a b) ≡ true → is_none (first_some a' b') ≡ true
  both_less a b a' b' f g e =
      let both = and_parts (is_none a) (is_none b) (sym (none_first a b) ∙ e) in
      none_first a' b' ∙ and_from (is_none a') (is_none b') (f both.0) (g both.1)

  eq_less : (s t : Term) → ((v : Var) → Among v (term_vars s ++ term_vars t) → test' v ≡ true → test v ≡ true)
      → is_none (first_some (solved_side test s t) (solved_side test t s)) ≡ true → is_none (first_some (solved_side test' s t) (solved_side test' t s)) ≡ true
  eq_less s t h e =
      both_less (solved_side test s t) (solved_side test t s) (solved_side test' s t) (solved_side test' t s)
      (base_less s.base s t (λ v k. h v (Among-left v (term_vars s) (term_vars t) k)))
      (base_less t.base t s (λ v k. h v (Among-right v (term_vars s) (term_vars t) k))) e

  pub solved_eq-less : (l : Lit) → ((v : Var) → Among v (lit_vars l) → test' v ≡ true → test v ≡ true) → is_none (solved_eq test l) ≡ true → is_none (solved_eq test' l) ≡ true
  solved_eq-less (Eq s t) h e = eq_less s t h e
  solved_eq-less _ h e = refl

  pub solved_any-less : (l : Lit) → ((v : Var) → test' v ≡ true → test v ≡ true) → is_none (solved_any test l) ≡ true → is_none (solved_any test' l) ≡ true
  solved_any-less (Eq s t) h e = eq_less s t (λ v k. h v) e
  solved_any-less (Same s t) h e =
      both_less (solved_set test s t) (solved_set test t s) (solved_set test' s t) (solved_set test' t s)
      (parts_less s.vars s.elems t (λ v k. h v)) (parts_less t.vars t.elems s (λ v k. h v)) e
  solved_any-less _ h e = refl

-- ---- under a renaming
module _ (r : Var → Var) (is : IsRenaming r) (test test' : Var → Bool) (same : (v : Var) → test' (r v) ≡ test v) where
  base_renamed : (b : Option Var) (s t : Term) → is_none (solved_base test' (rename_base r b) (rename_term r s) (rename_term r t)) ≡ is_none (solved_base test b s t)
  base_renamed None s t = refl
  base_renamed (Some v) s t =
      none_cond (sort_eq (r v).sort Int && test' (r v) && not (base_eq (Some (r v)) (rename_base r t.base))) (bind_int (r v) (plus (rename_term r t) (neg_ℤ s.offset)))
      ∙ (λ i. not (sort_eq (is.sort v i) Int && same v i && not (base_eq-rename r is (Some v) t.base i)))
      ∙ sym (none_cond (sort_eq v.sort Int && test v && not (base_eq (Some v) t.base)) (bind_int v (plus t (neg_ℤ s.offset))))

  parts_renamed : (vs : List Var) (es : List Term) (t : SetTerm)
      → is_none (solved_parts test' (map r vs) (map (rename_term r) es) (rename_set r t)) ≡ is_none (solved_parts test vs es t)
  parts_renamed (v ∷ []) [] t =
      none_cond (test' (r v) && not (var_in (r v) (map r t.vars))) (bind_set (r v) (rename_set r t))
      ∙ (λ i. not (same v i && not (var_in-rename r is v t.vars i)))
      ∙ sym (none_cond (test v && not (var_in v t.vars)) (bind_set v t))
  parts_renamed [] es t = refl
  parts_renamed (v ∷ []) (e ∷ es) t = refl
  parts_renamed (v ∷ w ∷ vs) es t = refl

  both_renamed : (a b a' b' : Option Subst) → is_none a' ≡ is_none a → is_none b' ≡ is_none b → is_none (first_some a' b') ≡ is_none (first_some a b)
  both_renamed a b a' b' f g = none_first a' b' ∙ ap₂ (λ x y. x && y) f g ∙ sym (none_first a b)

  eq_renamed : (s t : Term) → is_none (first_some (solved_side test' (rename_term r s) (rename_term r t)) (solved_side test' (rename_term r t) (rename_term r s)))
      ≡ is_none (first_some (solved_side test s t) (solved_side test t s))
  eq_renamed s t = both_renamed (solved_side test s t) (solved_side test t s) _ _ (base_renamed s.base s t) (base_renamed t.base t s)

  pub solved_eq-rename : (l : Lit) → is_none (solved_eq test' (rename_lit r l)) ≡ is_none (solved_eq test l)
  solved_eq-rename (Eq s t) = eq_renamed s t
  solved_eq-rename _ = refl

  pub solved_any-rename : (l : Lit) → is_none (solved_any test' (rename_lit r l)) ≡ is_none (solved_any test l)
  solved_any-rename (Eq s t) = eq_renamed s t
  solved_any-rename (Same s t) =
      both_renamed (solved_set test s t) (solved_set test t s) _ _ (parts_renamed s.vars s.elems t) (parts_renamed t.vars t.elems s)
  solved_any-rename _ = refl

-- ---- what a literal is solved by

-- a substitution whose images fit, and that binds nothing but variables that pass the test
pub record SolvesFor (test p q : Var → Bool) (by : Subst) : Type 0 where
  pub fit : ImagesFit p q by
  pub ints : (w : Var) → test w ≡ false → int_image by.ints w ≡ None
  pub sets : (w : Var) → test w ≡ false → set_image by.sets w ≡ None

module _ (test p q : Var → Bool) where
  other : (v w : Var) → test v ≡ true → test w ≡ false → var_eq v w ≡ false
  other v w h k = false_from_ne_true (var_eq v w) (λ e. both_ways (test w) k (subst (λ x. test x ≡ true) ((Decides-var_eq v w).0 e) h))

  by_int : (v : Var) (t : Term) → test v ≡ true → term_fits p t ≡ true → SolvesFor test p q (bind_int v t)
  by_int v t h k = record {
    fit = record {
      ints = λ w to _ e. subst (λ x. term_fits p x ≡ true) (cond_some (var_eq v w) t to e).1 k;
      sets = λ w u _ e. absurd (none-some u e);
    };
    ints = λ w e. cond-false (var_eq v w) (Some t) None (other v w h e);
    sets = λ w e. refl;
  }

  by_set : (v : Var) (u : SetTerm) → test v ≡ true → set_fits p q u ≡ true → SolvesFor test p q (bind_set v u)
  by_set v u h k = record {
    fit = record {
      ints = λ w to _ e. absurd (none-some to e);
      sets = λ w to _ e. subst (λ x. set_fits p q x ≡ true) (cond_some (var_eq v w) u to e).1 k;
    };
    ints = λ w e. refl;
    sets = λ w e. cond-false (var_eq v w) (Some u) None (other v w h e);
  }

  base_solved : (b : Option Var) (s t : Term) (by : Subst) → term_fits p t ≡ true → solved_base test b s t ≡ Some by → SolvesFor test p q by
  base_solved None s t by f e = absurd (none-some by e)
  base_solved (Some v) s t by f e =
      let found = cond_some (sort_eq v.sort Int && test v && not (base_eq (Some v) t.base)) (bind_int v (plus t (neg_ℤ s.offset))) by e in
      let both = and_parts (sort_eq v.sort Int && test v) (not (base_eq (Some v) t.base)) found.0 in
      subst (SolvesFor test p q) found.1 (by_int v (plus t (neg_ℤ s.offset)) (and_parts (sort_eq v.sort Int) (test v) both.0).1 f)

  parts_solved : (vs : List Var) (es : List Term) (t : SetTerm) (by : Subst) → set_fits p q t ≡ true → solved_parts test vs es t ≡ Some by → SolvesFor test p q by
  parts_solved (v ∷ []) [] t by f e =
      let found = cond_some (test v && not (var_in v t.vars)) (bind_set v t) by e in
      subst (SolvesFor test p q) found.1 (by_set v t (and_parts (test v) (not (var_in v t.vars)) found.0).0 f)
  parts_solved [] es t by f e = absurd (none-some by e)
  parts_solved (v ∷ []) (x ∷ es) t by f e = absurd (none-some by e)
  parts_solved (v ∷ w ∷ vs) es t by f e = absurd (none-some by e)

  eq_solved : (s t : Term) (by : Subst) → (term_fits p s && term_fits p t) ≡ true → first_some (solved_side test s t) (solved_side test t s) ≡ Some by → SolvesFor test p q by
  eq_solved s t by f e =
      let both = and_parts (term_fits p s) (term_fits p t) f in
      ⊎_elim (base_solved s.base s t by both.1) (base_solved t.base t s by both.0) (first_some_cases (solved_side test s t) (solved_side test t s) by e)

  pub solved_eq-by : (l : Lit) (by : Subst) → lit_fits p q l ≡ true → solved_eq test l ≡ Some by → SolvesFor test p q by
  solved_eq-by (Eq s t) by f e = eq_solved s t by f e
  solved_eq-by _ by f e = absurd (none-some by e)

  pub solved_any-by : (l : Lit) (by : Subst) → lit_fits p q l ≡ true → solved_any test l ≡ Some by → SolvesFor test p q by
  solved_any-by (Eq s t) by f e = eq_solved s t by f e
  solved_any-by (Same s t) by f e =
      let both = and_parts (set_fits p q s) (set_fits p q t) f in
      ⊎_elim (parts_solved s.vars s.elems t by both.1) (parts_solved t.vars t.elems s by both.0) (first_some_cases (solved_set test s t) (solved_set test t s) by e)
  solved_any-by _ by f e = absurd (none-some by e)
