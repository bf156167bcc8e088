-- The literals of a dealing are few enough to be solved.
use Rattle.std.proofs.Common.{◌⊎◌, ◌≤◌, List, ◌++◌, length, inl, inr, subst, arith}
use Rattle.std.specs.List.{flat_map}
use Rattle.cyp_term.specs.declared.lit.Lit.{Lit}
use Rattle.cyp_term.specs.declared.term.Var.{Var}
use Rattle.cyp_term.specs.Regions.{all_terms}
use Rattle.cyp_term.specs.Terms.{lits_vars, term_vars, var_eq}
use Rattle.cyp_term.proofs.Equality.{Decides-var_eq}
use Rattle.cyp_term.proofs.Lists.{Among, Among-cases, Among-left, Among-right}
use Rattle.cyp_term.proofs.Repeats.{without_repeats_in}
use Rattle.cyp_diff.specs.Solving.{variables}
use Rattle.cyp_pure.specs.declared.dealing.Dealing.{Dealing}
use Rattle.cyp_pure.specs.declared.dealing.Question.{Question}
use Rattle.cyp_pure.specs.Dealing.{SaysClasses}
use Rattle.cyp_pure.specs.Questions.{CanBeAsked, IsAsked, int_side, number_vars, set_side}
use Rattle.cyp_pure.proofs.Fewer.{fewer_without_repeats}
use Rattle.cyp_pure.proofs.Saying.{among_var, lits_vars_cases, lits_vars_left, lits_vars_right, var_among}

-- a variable of the literals of integers, or of an element term
number_in : (ints sets : List Lit) (v : Var) → Among v (lits_vars ints) ⊎ Among v (flat_map term_vars (all_terms sets)) → Among v (number_vars ints sets)
number_in ints sets v (inl m) = without_repeats_in var_eq Decides-var_eq v _ (Among-left v (lits_vars ints) (flat_map term_vars (all_terms sets)) m)
number_in ints sets v (inr m) = without_repeats_in var_eq Decides-var_eq v _ (Among-right v (lits_vars ints) (flat_map term_vars (all_terms sets)) m)

module _ (q : Question) (d : Dealing) (asked : IsAsked q) (said : SaysClasses q d) where
  number_of_fact : (v : Var) → Among v (lits_vars q.more.now) ⊎ Among v (flat_map term_vars q.terms.now) → Among v (number_vars (int_side q) (set_side q))
  number_of_fact v (inl m) = number_in (int_side q) (set_side q) v (inl (lits_vars_right v q.ints.now q.more.now m))
  number_of_fact v (inr m) = number_in (int_side q) (set_side q) v (inr (subst (λ ts. Among v (flat_map term_vars ts)) asked.terms m))

  number_of : (v : Var) → Among v (lits_vars q.ints.now) ⊎ Among v (lits_vars d.facts) → Among v (number_vars (int_side q) (set_side q))
  number_of v (inl m) = number_in (int_side q) (set_side q) v (inl (lits_vars_left v q.ints.now q.more.now m))
  number_of v (inr m) =
      number_of_fact v (Among-cases v (lits_vars q.more.now) (flat_map term_vars q.terms.now)
      (var_among v (lits_vars q.more.now ++ flat_map term_vars q.terms.now) (said.vars v (among_var v (lits_vars d.facts) m))))

  pub few_variables : length (variables (q.ints.now ++ d.facts)) ≤ 32
  few_variables =
      let fewer = fewer_without_repeats var_eq Decides-var_eq (lits_vars (q.ints.now ++ d.facts)) (number_vars (int_side q) (set_side q))
      (λ v m. number_of v (lits_vars_cases v q.ints.now d.facts m)) in
      let few = asked.lits.few_numbers in
      omega (arith, fewer, few)

-- the literals of integers alone
pub few_ints : (ints sets : List Lit) → CanBeAsked ints sets → length (variables ints) ≤ 32
few_ints ints sets asked =
    let fewer = fewer_without_repeats var_eq Decides-var_eq (lits_vars ints) (number_vars ints sets) (λ v m. number_in ints sets v (inl m)) in
    let few = asked.few_numbers in
    omega (arith, fewer, few)
