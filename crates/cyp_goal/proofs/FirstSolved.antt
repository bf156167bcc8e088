-- The first literal that can be solved: there is none where none can be solved, and what is left where there is one.
use Rattle.std.proofs.Common.{◌≡◌, [], ◌∷◌, List, Option, Some, None, true, ◌&&◌, length, suc, option_map, refl, ap, inl, inr, subst}
use Rattle.std.specs.List.{list_all}
use Rattle.std.specs.Option.{is_none}
use Rattle.std.proofs.lemmas.Bool.{and_parts, false≢true}
use Rattle.std.proofs.lemmas.Option.{none-some, same_Some}
use Rattle.cyp_goal.specs.Solving.{first_solved}
use Rattle.cyp_term.proofs.Lists.{Among}
use Rattle.cyp_term.specs.declared.lit.Lit.{Lit}
use Rattle.cyp_term.specs.declared.subst.Subst.{Subst}

abbrev pub first_at : Option Subst → Lit → List Lit → Option (Subst × List Lit) → Option (Subst × List Lit)
first_at o l ls later = elim o [
  | Some by ↦ Some (by, ls)
  | None ↦ option_map (λ (p : Subst × List Lit). (p.0, l ∷ p.1)) later
]

module _ (f : Lit → Option Subst) where
  none_step : (o : Option Subst) (l : Lit) (ls : List Lit) (later : Option (Subst × List Lit)) → (later ≡ None → list_all (λ m. is_none (f m)) ls ≡ true)
      → first_at o l ls later ≡ None → (is_none o && list_all (λ m. is_none (f m)) ls) ≡ true
  none_step (Some by) l ls later ih e = cc
  none_step None l ls None ih e = ih refl
  none_step None l ls (Some p) ih e = cc

  -- where none is found none has an answer
  pub all_none : (ls : List Lit) → first_solved f ls ≡ None → list_all (λ m. is_none (f m)) ls ≡ true
  all_none [] e = refl
  all_none (l ∷ ls) e = none_step (f l) l ls (first_solved f ls) (all_none ls) e

  found_step : (o : Option Subst) (l : Lit) (ls : List Lit) (later : Option (Subst × List Lit)) → later ≡ None → is_none o ≡ true → first_at o l ls later ≡ None
  found_step (Some by) l ls later e h = absurd (false≢true h)
  found_step None l ls None e h = refl
  found_step None l ls (Some p) e h = cc

  -- where none has an answer none is found
  pub none_found : (ls : List Lit) → list_all (λ m. is_none (f m)) ls ≡ true → first_solved f ls ≡ None
  none_found [] h = refl
  none_found (l ∷ ls) h =
      let both = and_parts (is_none (f l)) (list_all (λ m. is_none (f m)) ls) h in
      found_step (f l) l ls (first_solved f ls) (none_found ls both.1) both.0

  -- what is found: one literal less, the others are those that were there, and the answer is that of one of them
  pub record Found (ls : List Lit) (p : Subst × List Lit) : Type 0 where
    pub fewer : suc (length p.1) ≡ length ls
    pub among : (x : Lit) → Among x p.1 → Among x ls
    pub lit : Lit
    pub there : Among lit ls
    pub answer : f lit ≡ Some p.0

  keep_first : (l : Lit) (ls : List Lit) (q : Subst × List Lit) → Found ls q → Found (l ∷ ls) (q.0, l ∷ q.1)
  keep_first l ls q d = record {
    fewer = ap suc d.fewer;
    among = among;
    lit = d.lit;
    there = inr d.there;
    answer = d.answer;
  }
    where
      among : (x : Lit) → Among x (l ∷ q.1) → Among x (l ∷ ls)
      among x (inl e) = inl e
      among x (inr k) = inr (d.among x k)

  step_out : (o : Option Subst) (l : Lit) (ls : List Lit) (later : Option (Subst × List Lit)) (p : Subst × List Lit) → f l ≡ o
      → ((q : Subst × List Lit) → later ≡ Some q → Found ls q) → first_at o l ls later ≡ Some p → Found (l ∷ ls) p
  step_out (Some by) l ls later p is ih e =
      subst (Found (l ∷ ls)) (same_Some (by, ls) p e) (record { fewer = refl; among = λ x k. inr k; lit = l; there = inl refl; answer = is })
  step_out None l ls None p is ih e = absurd (none-some p e)
  step_out None l ls (Some q) p is ih e = subst (Found (l ∷ ls)) (same_Some (q.0, l ∷ q.1) p e) (keep_first l ls q (ih q refl))

  pub first_found : (ls : List Lit) (p : Subst × List Lit) → first_solved f ls ≡ Some p → Found ls p
  first_found [] p e = absurd (none-some p e)
  first_found (l ∷ ls) p e = step_out (f l) l ls (first_solved f ls) p refl (first_found ls) e
