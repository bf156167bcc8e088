-- The test of bounds decides whether integers meet them.
use Rattle.std.proofs.Common.{◌≡◌, ◌⊎◌, ℤ, ◌+ℤ◌, ◌≤ℤ◌, List, [], ◌∷◌, Option, Some, None, true, false, Decides, refl, sym, ap, subst₂, ◌∙◌, inl, inr}
use Rattle.std.specs.List.{flat_map, list_all}
use Rattle.std.proofs.lemmas.Bool.{cases_Bool, both_ways}
use Rattle.std.proofs.lemmas.Bool.Decides.{Decides-and}
use Rattle.cyp_term.specs.declared.term.Var.{Var}
use Rattle.cyp_term.specs.declared.term.Term.{Term}
use Rattle.cyp_term.specs.Terms.{var_eq, base_vars, term_vars}
use Rattle.cyp_term.specs.Meaning.{Assignment, base_value, value}
use Rattle.cyp_term.specs.Integers.{Bound, at_most, is_met, bound_vars, all_zero, eliminate_all, feasible}
use Rattle.cyp_term.proofs.Numbers.{Decides-int_le}
use Rattle.cyp_term.proofs.Equality.{Decides-var_eq}
use Rattle.cyp_term.proofs.Lists.{Among, Among-left, Among-right}
use Rattle.cyp_term.proofs.Parts.{Meets, AllMet}
use Rattle.cyp_term.proofs.Eliminate.{put-same, put-other, over, eliminate_all_in, eliminate_all_out}

pub Decides-met : (b : Assignment) (cs : List Bound) → Decides (list_all (is_met b) cs) (AllMet b cs)
Decides-met b [] = (λ e. tt, λ h. refl)
Decides-met b (at_most s t ∷ cs) = Decides-and _ _ (Decides-int_le (value b s) (value b t)) (Decides-met b cs)

over_more : (a d : Assignment) (y x : Var) (xs : List Var) → (Among y xs → (over xs a d).number y ≡ a.number y) → (y ≡ x) ⊎ Among y xs → (var_eq y x ≡ true) ⊎ (var_eq y x ≡ false) → (over (x ∷ xs) a d).number y ≡ a.number y
unfolding over
over_more a d y x xs ih h (inl e) = put-same (over xs a d) x (a.number x) y e ∙ ap a.number (sym ((Decides-var_eq y x).0 e))
over_more a d y x xs ih (inl p) (inr e) = absurd (both_ways _ e ((Decides-var_eq y x).1 p))
over_more a d y x xs ih (inr h) (inr e) = put-other (over xs a d) x (a.number x) y e ∙ ih h

over-among : (a d : Assignment) (y : Var) (xs : List Var) → Among y xs → (over xs a d).number y ≡ a.number y
over-among a d y [] h = absurd h
over-among a d y (x ∷ xs) h = over_more a d y x xs (over-among a d y xs) h (cases_Bool (var_eq y x))

-- two assignments that agree at the variables of the bounds
base_agree : (a b : Assignment) (o : Option Var) (n : ℤ) → ((y : Var) → Among y (base_vars o) → a.number y ≡ b.number y) → (base_value a o +ℤ n) ≡ (base_value b o +ℤ n)
base_agree a b None n h = refl
base_agree a b (Some x) n h = ap (λ m. m +ℤ n) (h x (inl refl))

pub value_agree : (a b : Assignment) (s : Term) → ((y : Var) → Among y (base_vars s.base) → a.number y ≡ b.number y) → value a s ≡ value b s
value_agree a b s h = base_agree a b s.base s.offset h

bound_agree : (a b : Assignment) (c : Bound) → ((y : Var) → Among y (bound_vars c) → a.number y ≡ b.number y) → Meets a c → Meets b c
bound_agree a b (at_most s t) h k =
    subst₂ (λ i j. i ≤ℤ j) (value_agree a b s (λ y m. h y (Among-left y (term_vars s) (term_vars t) m)))
    (value_agree a b t (λ y m. h y (Among-right y (term_vars s) (term_vars t) m))) k

all_agree : (a b : Assignment) (cs : List Bound) → ((y : Var) → Among y (flat_map bound_vars cs) → a.number y ≡ b.number y) → AllMet a cs → AllMet b cs
all_agree a b [] h k = tt
all_agree a b (c ∷ cs) h k = (
  bound_agree a b c (λ y m. h y (Among-left y (bound_vars c) (flat_map bound_vars cs) m)) k.0,
  all_agree a b cs (λ y m. h y (Among-right y (bound_vars c) (flat_map bound_vars cs) m)) k.1,
)

pub Decides-feasible : (cs : List Bound) → Decides (feasible cs) ((b : Assignment) × AllMet b cs)
unfolding feasible
Decides-feasible cs =
    let met' = Decides-met all_zero (eliminate_all (flat_map bound_vars cs) cs) in (
      λ e. eliminate_all_out all_zero (flat_map bound_vars cs) cs (met'.0 e),
      λ h. met'.1 (eliminate_all_in h.0 all_zero (flat_map bound_vars cs) cs
          (all_agree h.0 (over (flat_map bound_vars cs) h.0 all_zero) cs (λ y m. sym (over-among h.0 all_zero y (flat_map bound_vars cs) m)) h.1)),
    )
