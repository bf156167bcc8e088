-- The tests computed on small lists.
use Rattle.std.proofs.Common.{◌≡◌, ℕ, pos, List, [], ◌∷◌, Some, None, true, false, refl}
use Rattle.cyp_term.specs.declared.term.Sort.TheVariants.{Int, Set}
use Rattle.cyp_term.specs.declared.term.Var.{Var}
use Rattle.cyp_term.specs.declared.term.Term.{Term}
use Rattle.cyp_term.specs.declared.lit.SetTerm.{SetTerm}
use Rattle.cyp_term.specs.declared.lit.Lit.{Lit}
use Rattle.cyp_term.specs.declared.lit.Lit.TheVariants.{Eq, Ne, Le, Same, Member, Sub}
use Rattle.cyp_term.specs.Integers.{both, joined, eliminate, eliminate_all, feasible, all_cases, ints_fit}
use Rattle.cyp_term.specs.Regions.{regions_fit, all_terms, all_set_vars}
use Rattle.cyp_term.specs.Entailment.{arrangements, class_literals, arrangement_fits, satisfiable, entailed}

abbrev x : ℕ → Term
x n = record { base = Some (record { sort = Int; number = n }); offset = pos 0 }

abbrev num : ℕ → Term
num n = record { base = None; offset = pos n }

abbrev s : Var
s = record { sort = Set; number = 0 }

abbrev t : Var
t = record { sort = Set; number = 1 }

abbrev union : List Var → List Term → SetTerm
union vs es = record { vars = vs; elems = es }

-- 1 <= x, x <= 2, x != 1, x != 2
nothing_between : ints_fit (Le (num 1) (x 0) ∷ (Le (x 0) (num 2) ∷ (Ne (x 0) (num 1) ∷ (Ne (x 0) (num 2) ∷ [])))) ≡ false
unfolding joined eliminate eliminate_all feasible both all_cases ints_fit
nothing_between = refl

-- three values for four different variables
abbrev one_to_three : ℕ → List Lit → List Lit
one_to_three n ls = Le (num 1) (x n) ∷ (Le (x n) (num 3) ∷ ls)

no_fourth_value : ints_fit (one_to_three 0 (one_to_three 1 (one_to_three 2 (one_to_three 3 (Ne (x 0) (x 1) ∷ (Ne (x 0) (x 2) ∷ (Ne (x 0) (x 3) ∷ (Ne (x 1) (x 2) ∷ (Ne (x 1) (x 3) ∷ (Ne (x 2) (x 3) ∷ [])))))))))) ≡ false
unfolding joined eliminate eliminate_all feasible both all_cases ints_fit
no_fourth_value = refl

-- s within t doesn't give t within s
not_turned_round : entailed (Sub (union (s ∷ []) []) (union (t ∷ []) []) ∷ []) (Sub (union (t ∷ []) []) (union (s ∷ []) []) ∷ []) ≡ false
unfolding joined eliminate eliminate_all feasible both all_cases ints_fit arrangements class_literals arrangement_fits satisfiable entailed regions_fit all_terms all_set_vars
not_turned_round = refl

-- s = {c}, a in s, b in s give a = b
one_member : entailed (Same (union (s ∷ []) []) (union [] (x 2 ∷ [])) ∷ (Member (x 0) (union (s ∷ []) []) ∷ (Member (x 1) (union (s ∷ []) []) ∷ []))) (Eq (x 0) (x 1) ∷ []) ≡ true
unfolding joined eliminate eliminate_all feasible both all_cases ints_fit arrangements class_literals arrangement_fits satisfiable entailed regions_fit all_terms all_set_vars
one_member = refl

-- s = {a} ++ t, t = {b} give b in s
through_a_union : entailed (Same (union (s ∷ []) []) (union (t ∷ []) (x 0 ∷ [])) ∷ (Same (union (t ∷ []) []) (union [] (x 1 ∷ [])) ∷ [])) (Member (x 1) (union (s ∷ []) []) ∷ []) ≡ true
unfolding joined eliminate eliminate_all feasible both all_cases ints_fit arrangements class_literals arrangement_fits satisfiable entailed regions_fit all_terms all_set_vars
through_a_union = refl
