-- The test of integer literals decides whether integers make them true.
use Rattle.std.proofs.Common.{pos, ◌+ℤ◌, ◌≤ℤ◌, List, [], ◌∷◌, Decides, sym, subst, inl, inr}
use Rattle.std.specs.List.{AllByRecursion}
use Rattle.std.proofs.lemmas.Bool.Decides.{Decides-like}
use Rattle.cyp_term.specs.declared.term.Term.{Term}
use Rattle.cyp_term.specs.declared.lit.Lit.{Lit}
use Rattle.cyp_term.specs.declared.lit.Lit.TheVariants.{Eq, Ne, Le, Lt}
use Rattle.cyp_term.specs.Meaning.{Assignment, value, Truth, Satisfiable}
use Rattle.cyp_term.specs.Integers.{is_int_lit, int_lits, less, cases_of, all_cases, feasible, ints_fit}
use Rattle.cyp_term.proofs.Numbers.{≤ℤ_antisym, ≤ℤ_of_eq, lt_from_next, next_from_lt, ne_from_next, next_cases}
use Rattle.cyp_term.proofs.Lists.{Every-filter, SomeOf, Decides-some, SomeOf-weaker, SomeOf-out}
use Rattle.cyp_term.proofs.Cases.{both-iff}
use Rattle.cyp_term.proofs.Literals.{IntTruth, int_truth, int_nothing, AllTrue-every}
use Rattle.cyp_term.proofs.Parts.{Meets, AllMet}
use Rattle.cyp_term.proofs.Eliminate.{value-plus}
use Rattle.cyp_term.proofs.Feasible.{Decides-feasible}

less-out : (a : Assignment) (s t : Term) → Meets a (less s t) → (value a s +ℤ pos 1) ≤ℤ value a t
less-out a s t h = subst (λ i. i ≤ℤ value a t) (value-plus a s (pos 1)) h

less-in : (a : Assignment) (s t : Term) → (value a s +ℤ pos 1) ≤ℤ value a t → Meets a (less s t)
less-in a s t h = subst (λ i. i ≤ℤ value a t) (sym (value-plus a s (pos 1))) h

case_out : (a : Assignment) (l : Lit) → SomeOf (AllMet a) (cases_of l) → IntTruth (value a) l
case_out a (Eq s t) h = elim h [ inl k ↦ ≤ℤ_antisym _ _ k.0 k.1.0 | inr k ↦ absurd k ]
case_out a (Ne s t) h = λ e.
    elim h [
      | inl k ↦ ne_from_next _ _ (less-out a s t k.0) e
      | inr k ↦ elim k [ inl m ↦ ne_from_next _ _ (less-out a t s m.0) (sym e) | inr m ↦ m ]
    ]
case_out a (Le s t) h = elim h [ inl k ↦ k.0 | inr k ↦ absurd k ]
case_out a (Lt s t) h = elim h [ inl k ↦ lt_from_next _ _ (less-out a s t k.0) | inr k ↦ absurd k ]
case_out a _ h = tt

case_in : (a : Assignment) (l : Lit) → IntTruth (value a) l → SomeOf (AllMet a) (cases_of l)
case_in a (Eq s t) h = inl (≤ℤ_of_eq _ _ h, (≤ℤ_of_eq _ _ (sym h), tt))
case_in a (Ne s t) h =
    elim (next_cases (value a s) (value a t) h) [ inl k ↦ inl (less-in a s t k, tt) | inr k ↦ inr (inl (less-in a t s k, tt)) ]
case_in a (Le s t) h = inl (h, tt)
case_in a (Lt s t) h = inl (less-in a s t (next_from_lt _ _ h), tt)
case_in a _ h = inl tt

all_out : (a : Assignment) (ls : List Lit) → SomeOf (AllMet a) (all_cases ls) → AllByRecursion (IntTruth (value a)) ls
unfolding all_cases
all_out a [] h = tt
all_out a (l ∷ ls) h = let r = (both-iff (Meets a) (cases_of l) (all_cases ls)).0 h in (case_out a l r.0, all_out a ls r.1)

all_in : (a : Assignment) (ls : List Lit) → AllByRecursion (IntTruth (value a)) ls → SomeOf (AllMet a) (all_cases ls)
unfolding all_cases
all_in a [] h = inl tt
all_in a (l ∷ ls) h = (both-iff (Meets a) (cases_of l) (all_cases ls)).1 (case_in a l h.0, all_in a ls h.1)

pub Decides-ints_fit : (ls : List Lit) → Decides (ints_fit ls) ((a : Assignment) × AllByRecursion (IntTruth (value a)) ls)
unfolding ints_fit
Decides-ints_fit ls =
    Decides-like _
    (λ h. let r = SomeOf-out AllMet (all_cases ls) h in (r.0, all_out r.0 ls r.1))
    (λ h. SomeOf-weaker (AllMet h.0) (λ c. (a : Assignment) × AllMet a c) (λ c k. (h.0, k)) (all_cases ls) (all_in h.0 ls h.1))
    (Decides-some (λ c. (a : Assignment) × AllMet a c) feasible Decides-feasible (all_cases ls))

pub Decides-integers : (ls : List Lit) → Decides (ints_fit ls) (Satisfiable (int_lits ls))
Decides-integers ls =
    let of = λ (a : Assignment). Every-filter is_int_lit (Truth a) (IntTruth (value a)) (int_truth a) (int_nothing (value a)) ls in
    let to = λ (a : Assignment). AllTrue-every a (int_lits ls) in
    Decides-like _ (λ h. (h.0, (to h.0).1 ((of h.0).1 h.1))) (λ h. (h.0, (of h.0).0 ((to h.0).0 h.1))) (Decides-ints_fit ls)
