-- The match of a finished walk, by what binding and the equalities that waited give.
use Rattle.std.proofs.Common.{◌≡◌, ◌∙◌, ◌||◌, ◌++◌, ℕ, Bool, true, false, cond, not, List, map, Option, Some, None, ap, sym}
use Rattle.std.specs.List.{filter, flat_map, list_any}
use Rattle.std.specs.Option.{option_and_then}
use Rattle.std.proofs.lemmas.Bool.{or_left, or_parts, or_right}
use Rattle.cyp_term.specs.Terms.{term_vars, var_in, wide_lit, wide_subst, wide_term}
use Rattle.cyp_heap.specs.Goals.{goal_vars}
use Rattle.cyp_heap.specs.declared.goal.Link.{Link}
use Rattle.cyp_term.specs.declared.lit.Lit.{Lit}
use Rattle.cyp_term.specs.declared.subst.Subst.{Subst}
use Rattle.cyp_term.specs.declared.term.Var.{Var}
use Rattle.cyp_unify.specs.Matches.{Walk, all_bound, finish_match, to_bind}
use Rattle.cyp_unify.specs.Meeting.{late_lit}
use Rattle.cyp_unify.specs.Walking.{wide_walk}
use Rattle.cyp_unify.specs.declared.found.Match.{Match}
use Rattle.cyp_unify.specs.declared.found.Mend.{Mend}
use Rattle.cyp_unify.proofs.BoundVars.{repeats_idle}

module _ (l : Link) (ks : List ℕ) (w : Walk) (vs : List Var) (same : vs ≡ filter (λ v. not (var_in v l.goal.exist)) (goal_vars l.goal) ++ flat_map term_vars l.own) where
  bound_same : all_bound l.map w.by (to_bind l) ≡ all_bound l.map w.by vs
  bound_same = repeats_idle l.map w.by (filter (λ v. not (var_in v l.goal.exist)) (goal_vars l.goal) ++ flat_map term_vars l.own) ∙ ap (all_bound l.map w.by) (sym same)

  abbrev all_needed : Subst → List Lit
  all_needed by = w.need ++ map (late_lit by) w.late

  abbrev mends_wide : Bool
  mends_wide = list_any (λ (m : Mend). wide_term m.value) w.mends

  abbrev judged : Subst → Option Match
  judged by = cond (wide_subst by || list_any wide_lit (all_needed by) || mends_wide) None (Some (record { pairs = ks; by = by; need = all_needed by; mends = w.mends }))

  finish_judged : (o : Option Subst) → all_bound l.map w.by vs ≡ o → finish_match l ks w ≡ option_and_then judged o
  finish_judged o e = ap (option_and_then judged) (bound_same ∙ e)

  pub finish_unbound : all_bound l.map w.by vs ≡ None → finish_match l ks w ≡ None
  finish_unbound e = finish_judged None e

  module _ (by : Subst) (e : all_bound l.map w.by vs ≡ Some by) where
    pub finish_wide : list_any wide_lit (all_needed by) ≡ true → finish_match l ks w ≡ None
    finish_wide h =
        finish_judged (Some by) e
        ∙ ap (λ b. cond b None (Some (record { pairs = ks; by = by; need = all_needed by; mends = w.mends })))
        (or_left (wide_subst by || list_any wide_lit (all_needed by)) mends_wide (or_right (wide_subst by) (list_any wide_lit (all_needed by)) h))

    none_wide : wide_subst by ≡ false → list_any wide_lit (all_needed by) ≡ false → wide_walk w ≡ false → (wide_subst by || list_any wide_lit (all_needed by) || mends_wide) ≡ false
    none_wide f g h = (λ i. f i || g i || (or_parts (wide_subst w.by || list_any wide_lit w.need) mends_wide h).1 i)

    pub finish_found : (need : List Lit) → wide_subst by ≡ false → need ≡ all_needed by → list_any wide_lit (all_needed by) ≡ false → wide_walk w ≡ false
        → finish_match l ks w ≡ Some (record { pairs = ks; by = by; need = need; mends = w.mends })
    finish_found need f d g h =
        finish_judged (Some by) e
        ∙ ap (λ b. cond b None (Some (record { pairs = ks; by = by; need = all_needed by; mends = w.mends }))) (none_wide f g h)
        ∙ ap (λ (ls : List Lit). Some (record { pairs = ks; by = by; need = ls; mends = w.mends })) (sym d)
