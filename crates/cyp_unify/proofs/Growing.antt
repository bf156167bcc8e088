-- An offset past the range stays in what a walk finds, and then there is no match.
use Rattle.std.proofs.Common.{◌≡◌, ◌∙◌, ◌||◌, ◌++◌, ℕ, Bool, true, false, cond, List, [], ◌∷◌, map, Option, Some, None, is_some, neg_ℤ, refl, ap, sym, subst, inl, inr}
use Rattle.std.specs.List.{list_any}
use Rattle.std.specs.Option.{option_and_then}
use Rattle.std.proofs.lemmas.Bool.{or_right}
use Rattle.std.proofs.lemmas.List.Folds.{list_any-append}
use Rattle.std.proofs.lemmas.Option.{same_Some}
use Rattle.cyp_term.specs.Terms.{apply_set, apply_term, plus, set_image, var_in, wide_lit, wide_set, wide_subst, wide_term}
use Rattle.cyp_heap.specs.declared.goal.Link.{Link}
use Rattle.cyp_term.specs.declared.lit.Lit.{Lit}
use Rattle.cyp_term.specs.declared.lit.Lit.TheVariants.{Eq, Same}
use Rattle.cyp_term.specs.declared.lit.SetTerm.{SetTerm}
use Rattle.cyp_term.specs.declared.subst.IntBind.{IntBind}
use Rattle.cyp_term.specs.declared.subst.SetBind.{SetBind}
use Rattle.cyp_term.specs.declared.subst.Subst.{Subst}
use Rattle.cyp_term.specs.declared.term.Term.{Term}
use Rattle.cyp_term.specs.declared.term.Var.{Var}
use Rattle.cyp_unify.specs.Matches.{Content, OfSet, Plain, Position, Walk, add_int, add_set, all_bound, binds, bound_by_map, finish_match, lone_var, set_step, to_bind, waits, walk, walk_step}
use Rattle.cyp_unify.specs.Walking.{wide_walk}
use Rattle.cyp_unify.specs.declared.found.Match.{Match}
use Rattle.cyp_unify.specs.declared.found.Mend.{Mend}
use Rattle.cyp_unify.proofs.BoundVars.{Added, and_then_some, one_added}

-- ---- more of each kind

or_more : (a b c d : Bool) → (a ≡ true → c ≡ true) → (b ≡ true → d ≡ true) → (a || b) ≡ true → (c || d) ≡ true
or_more true b c d f g h = ap (λ x. x || d) (f refl)
or_more false b c d f g h = or_right c d (g h)

any_more : {X : Type 0} (test : X → Bool) (xs ys : List X) → list_any test xs ≡ true → list_any test (xs ++ ys) ≡ true
any_more test xs ys h = list_any-append test xs ys ∙ ap (λ b. b || list_any test ys) h

module _ (by : Subst) where
  int_wide : (v : Var) (t : Term) → wide_subst by ≡ true → wide_subst (add_int by v t) ≡ true
  int_wide v t h =
      or_more (list_any (λ (b : IntBind). wide_term b.to) by.ints) (list_any (λ (b : SetBind). wide_set b.to) by.sets)
      (list_any (λ (b : IntBind). wide_term b.to) (add_int by v t).ints) (list_any (λ (b : SetBind). wide_set b.to) by.sets)
      (any_more (λ (b : IntBind). wide_term b.to) by.ints (record { var = v; to = t } ∷ [])) (λ e. e) h

  set_wide : (v : Var) (u : SetTerm) → wide_subst by ≡ true → wide_subst (add_set by v u) ≡ true
  set_wide v u h =
      or_more (list_any (λ (b : IntBind). wide_term b.to) by.ints) (list_any (λ (b : SetBind). wide_set b.to) by.sets)
      (list_any (λ (b : IntBind). wide_term b.to) by.ints) (list_any (λ (b : SetBind). wide_set b.to) (add_set by v u).sets)
      (λ e. e) (any_more (λ (b : SetBind). wide_set b.to) by.sets (record { var = v; to = u } ∷ [])) h

  added_wide : (more : Subst) (v : Var) → Added by more v → wide_subst by ≡ true → wide_subst more ≡ true
  added_wide more v (inl h) k = subst (λ s. wide_subst s ≡ true) (sym h.0) k
  added_wide more v (inr (inl h)) k = subst (λ s. wide_subst s ≡ true) (sym h.1) (int_wide v h.0 k)
  added_wide more v (inr (inr h)) k = subst (λ s. wide_subst s ≡ true) (sym h.1) (set_wide v h.0 k)

all_wide : (m by more : Subst) (vs : List Var) → all_bound m by vs ≡ Some more → wide_subst by ≡ true → wide_subst more ≡ true
all_wide m by more [] e h = subst (λ s. wide_subst s ≡ true) (same_Some by more e) h
all_wide m by more (v ∷ vs) e h =
    let a = and_then_some (λ (b : Subst). all_bound m b vs) (bound_by_map m by v) more e in
    all_wide m a.0 more vs a.2 (added_wide by a.0 v (one_added m by a.0 v a.1) h)

-- ---- a walk

module _ (w : Walk) where
  abbrev mend_test : Mend → Bool
  mend_test m = wide_term m.value

  by_wide : (more : Subst) → (wide_subst w.by ≡ true → wide_subst more ≡ true) → wide_walk w ≡ true → wide_walk (record w { by = more }) ≡ true
  by_wide more f h =
      or_more (wide_subst w.by || list_any wide_lit w.need) (list_any mend_test w.mends) (wide_subst more || list_any wide_lit w.need) (list_any mend_test w.mends)
      (or_more (wide_subst w.by) (list_any wide_lit w.need) (wide_subst more) (list_any wide_lit w.need) f (λ e. e)) (λ e. e) h

  need_wide : (l : Lit) → wide_walk w ≡ true → wide_walk (record w { need = w.need ++ l ∷ [] }) ≡ true
  need_wide l h =
      or_more (wide_subst w.by || list_any wide_lit w.need) (list_any mend_test w.mends) (wide_subst w.by || list_any wide_lit (w.need ++ l ∷ [])) (list_any mend_test w.mends)
      (or_more (wide_subst w.by) (list_any wide_lit w.need) (wide_subst w.by) (list_any wide_lit (w.need ++ l ∷ [])) (λ e. e) (any_more wide_lit w.need (l ∷ []))) (λ e. e) h

  mends_wide : (m : Mend) → wide_walk w ≡ true → wide_walk (record w { mends = w.mends ++ m ∷ [] }) ≡ true
  mends_wide m h =
      or_more (wide_subst w.by || list_any wide_lit w.need) (list_any mend_test w.mends) (wide_subst w.by || list_any wide_lit w.need) (list_any mend_test (w.mends ++ m ∷ []))
      (λ e. e) (any_more mend_test w.mends (m ∷ [])) h

  abbrev plain_by : Term → Term → Option Var → Walk
  plain_by t r (Some v) = record w { by = add_int w.by v (plus r (neg_ℤ t.offset)) }
  plain_by t r None = record w { need = w.need ++ Eq (apply_term w.by t) r ∷ [] }

  plain_wide : (t r : Term) (o : Option Var) → wide_walk w ≡ true → wide_walk (plain_by t r o) ≡ true
  plain_wide t r (Some v) h = by_wide (add_int w.by v (plus r (neg_ℤ t.offset))) (int_wide w.by v (plus r (neg_ℤ t.offset))) h
  plain_wide t r None h = need_wide (Eq (apply_term w.by t) r) h

  abbrev content_by : ℕ → Term → Term → Option Var → Walk
  content_by k t r (Some v) = record w { by = add_int w.by v (plus r (neg_ℤ t.offset)) }
  content_by k t r None = record w { mends = w.mends ++ record { cell = k; value = apply_term w.by t } ∷ [] }

  content_wide : (k : ℕ) (t r : Term) (o : Option Var) → wide_walk w ≡ true → wide_walk (content_by k t r o) ≡ true
  content_wide k t r (Some v) h = by_wide (add_int w.by v (plus r (neg_ℤ t.offset))) (int_wide w.by v (plus r (neg_ℤ t.offset))) h
  content_wide k t r None h = mends_wide (record { cell = k; value = apply_term w.by t }) h

  same_wide : (u r : SetTerm) (b : Bool) → wide_walk w ≡ true → wide_walk (set_step w u r b) ≡ true
  same_wide u r true h = h
  same_wide u r false h = need_wide (Same (apply_set w.by u) r) h

  abbrev lone_by : SetTerm → SetTerm → Var → Bool → Walk
  lone_by u r v true = set_step w u r false
  lone_by u r v false = record w { by = add_set w.by v r }

  lone_wide : (u r : SetTerm) (v : Var) (b : Bool) → wide_walk w ≡ true → wide_walk (lone_by u r v b) ≡ true
  lone_wide u r v true h = same_wide u r false h
  lone_wide u r v false h = by_wide (add_set w.by v r) (set_wide w.by v r) h

  abbrev set_by : List Var → SetTerm → SetTerm → Option Var → Walk
  set_by exist u r None = set_step w u r (waits u)
  set_by exist u r (Some v) = lone_by u r v (var_in v exist || is_some (set_image w.by.sets v))

  sets_wide : (exist : List Var) (u r : SetTerm) (o : Option Var) → wide_walk w ≡ true → wide_walk (set_by exist u r o) ≡ true
  sets_wide exist u r None h = same_wide u r (waits u) h
  sets_wide exist u r (Some v) h = lone_wide u r v (var_in v exist || is_some (set_image w.by.sets v)) h

  step_wide : (exist : List Var) (p : Position) → wide_walk w ≡ true → wide_walk (walk_step exist w p) ≡ true
  step_wide exist (Plain t r) h = plain_wide t r (binds exist w.by t) h
  step_wide exist (Content k t r) h = content_wide k t r (binds exist w.by t) h
  step_wide exist (OfSet u r) h = sets_wide exist u r (lone_var u) h

pub walk_wide : (exist : List Var) (w : Walk) (ps : List Position) → wide_walk w ≡ true → wide_walk (walk exist w ps) ≡ true
walk_wide exist w [] h = h
walk_wide exist w (p ∷ ps) h = walk_wide exist (walk_step exist w p) ps (step_wide w exist p h)

-- ---- the match

abbrev needed : Walk → Subst → List Lit
needed w by = w.need ++ map (λ (p : SetTerm × SetTerm). Same (apply_set by p.0) p.1) w.late

abbrev match_by : List ℕ → Walk → Subst → Bool → Option Match
match_by ks w by b = cond b None (Some (record { pairs = ks; by = by; need = needed w by; mends = w.mends }))

no_match_by : (l : Link) (ks : List ℕ) (w : Walk) (o : Option Subst) → all_bound l.map w.by (to_bind l) ≡ o → wide_walk w ≡ true
    → option_and_then (λ (by : Subst). match_by ks w by (wide_subst by || list_any wide_lit (needed w by) || list_any (λ (m : Mend). wide_term m.value) w.mends)) o ≡ None
no_match_by l ks w None e h = refl
no_match_by l ks w (Some by) e h =
    ap (match_by ks w by)
    (or_more (wide_subst w.by || list_any wide_lit w.need) (list_any (λ (m : Mend). wide_term m.value) w.mends) (wide_subst by || list_any wide_lit (needed w by)) (list_any (λ (m : Mend). wide_term m.value) w.mends)
    (or_more (wide_subst w.by) (list_any wide_lit w.need) (wide_subst by) (list_any wide_lit (needed w by)) (all_wide l.map w.by by (to_bind l) e)
    (any_more wide_lit w.need (map (λ (p : SetTerm × SetTerm). Same (apply_set by p.0) p.1) w.late))) (λ e. e) h)

pub no_match : (l : Link) (ks : List ℕ) (w : Walk) → wide_walk w ≡ true → finish_match l ks w ≡ None
no_match l ks w h = no_match_by l ks w (all_bound l.map w.by (to_bind l)) refl h
