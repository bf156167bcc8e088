-- The variables and terms that are counted against the limits.
use Rattle.std.proofs.Common.{◌≡◌, ℕ, ◌-◌, ◌≤◌, ◌<◌, List, [], ◌++◌, Bool, not, ◌&&◌, length, filter, nat_le, count_by, refl, sym, ap, ap₂, ◌∙◌, arith}
use Rattle.std.specs.List.{flat_map}
use Rattle.std.proofs.Math.Bool.{and-true}
use Rattle.std.proofs.lemmas.Bool.{le-leb, lt-leb}
use Rattle.std.proofs.lemmas.Grind.{flat_map-append}
use Rattle.std.proofs.lemmas.List.Filters.{length-filter_both}
use Rattle.std.proofs.lemmas.List.Sums.{length-filter}
use Rattle.cyp_term.specs.declared.lit.Lit.{Lit}
use Rattle.cyp_term.specs.declared.term.Term.{Term}
use Rattle.cyp_term.specs.declared.term.Var.{Var}
use Rattle.cyp_term.specs.Terms.{is_set_var, lit_elements, lits_vars, term_eq, var_eq, with_all_new, without_repeats}
use Rattle.cyp_pure.specs.Fits.{fits}
use Rattle.cyp_pure.proofs.Adding.{added_two}

-- ---- variables of integers and of sets

-- how many variables aren't sets
abbrev numbers_of : List Var → ℕ
numbers_of vs = length (filter (λ v. not (is_set_var v)) vs)

-- how many variables are sets
abbrev sets_of : List Var → ℕ
sets_of vs = length (filter is_set_var vs)

sets_counted : (vs : List Var) (n : ℕ) → n ≡ count_by is_set_var vs → n ≡ sets_of vs
sets_counted vs n e = e ∙ sym (length-filter is_set_var vs)

numbers_counted : (vs : List Var) (n : ℕ) → n ≡ count_by is_set_var vs → length vs - n ≡ numbers_of vs
numbers_counted vs n e =
    let s : n ≡ sets_of vs = sets_counted vs n e in
    omega (arith, length-filter_both is_set_var (λ v. not (is_set_var v)) (λ v. refl) vs)

both_counted : (vs : List Var) (n : ℕ) → n ≡ count_by is_set_var vs → (nat_le (length vs - n) 32 && nat_le n 12) ≡ (nat_le (numbers_of vs) 32 && nat_le (sets_of vs) 12)
both_counted vs n e = ap₂ (λ i j. nat_le i 32 && nat_le j 12) (numbers_counted vs n e) (sets_counted vs n e)

pub few_numbers : (vs : List Var) (n : ℕ) → n ≡ count_by is_set_var vs → length vs - n ≤ 32 → nat_le n 12 ≡ (nat_le (numbers_of vs) 32 && nat_le (sets_of vs) 12)
few_numbers vs n e h = sym (ap (λ b. b && nat_le n 12) (le-leb (length vs - n) 32 h)) ∙ both_counted vs n e

pub many_numbers : (vs : List Var) (n : ℕ) → n ≡ count_by is_set_var vs → 32 < length vs - n → nat_le (length vs - n) 32 ≡ (nat_le (numbers_of vs) 32 && nat_le (sets_of vs) 12)
many_numbers vs n e h = lt-leb (length vs - n) 32 h ∙ sym (ap (λ b. b && nat_le n 12) (lt-leb (length vs - n) 32 h)) ∙ both_counted vs n e

-- ---- what is seen in two lists

pub seen_both : {X : Type 0} (eq : X → X → Bool) (f : Lit → List X) (a b : List Lit) (xs ys zs : List X) → xs ≡ [] → ys ≡ with_all_new eq xs (flat_map f a) → zs ≡ with_all_new eq ys (flat_map f b) → zs ≡ without_repeats eq (flat_map f (a ++ b))
seen_both eq f a b xs ys zs d e h =
    added_two eq xs ys zs (flat_map f a) (flat_map f b) e h ∙ ap₂ (with_all_new eq) d (sym (flat_map-append f a b))

pub fits_is : (a b : List Lit) (vs : List Var) (ts : List Term) (r : Bool) → vs ≡ without_repeats var_eq (lits_vars (a ++ b)) → ts ≡ without_repeats term_eq (flat_map lit_elements (a ++ b)) → length a ≤ 320 → length b ≤ 64
    → r ≡ (nat_le (length (filter (λ v. not (is_set_var v)) vs)) 32 && nat_le (length (filter is_set_var vs)) 12 && nat_le (length ts) 6) → r ≡ fits a b
fits_is a b vs ts r ev et la lb e =
    e ∙ ap₂ (λ us ss. nat_le (numbers_of us) 32 && nat_le (sets_of us) 12 && nat_le (length ss) 6) ev et ∙ sym (and-true _) ∙ sym (and-true _)
    ∙ ap₂ (λ p q. within && p && q) (sym (le-leb (length a) 320 la)) (sym (le-leb (length b) 64 lb))
  where
    within : Bool
    within =
        nat_le (numbers_of (without_repeats var_eq (lits_vars (a ++ b)))) 32 && nat_le (sets_of (without_repeats var_eq (lits_vars (a ++ b)))) 12
        && nat_le (length (without_repeats term_eq (flat_map lit_elements (a ++ b)))) 6
