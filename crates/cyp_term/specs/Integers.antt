-- A test of the literals of integers. Each literal is a choice of cases of bounds between terms. Of the bounds of a case the
-- variables are eliminated one after another (as by Fourier and Motzkin), and what is left is read with zero at each variable.
use Rattle.std.specs.Prelude.{ℤ, pos, neg_ℤ, int_le, List, [], ◌∷◌, ◌++◌, map, filter, flat_map, Option, Some, None, Bool, true, false, cond}
use Rattle.std.specs.List.{list_any, list_all}
use Rattle.cyp_term.specs.declared.term.Var.{Var}
use Rattle.cyp_term.specs.declared.term.Term.{Term}
use Rattle.cyp_term.specs.declared.lit.Lit.{Lit}
use Rattle.cyp_term.specs.declared.lit.Lit.TheVariants.{Eq, Ne, Le, Lt}
use Rattle.cyp_term.specs.Terms.{var_eq, term_vars, number_term, plus}
use Rattle.cyp_term.specs.Meaning.{Assignment, value}

-- whether the literal compares integers; the others speak of sets
abbrev pub is_int_lit : Lit → Bool
is_int_lit (Eq a b) = true
is_int_lit (Ne a b) = true
is_int_lit (Le a b) = true
is_int_lit (Lt a b) = true
is_int_lit _ = false

-- the literals that compare integers
abbrev pub int_lits : List Lit → List Lit
int_lits ls = filter is_int_lit ls

-- ---- bounds

-- the first term is at most the second
pub data Bound : Type 0 where
  at_most : Term → Term → Bound

-- the first is less: it plus one is at most the second
abbrev pub less : Term → Term → Bound
less s t = at_most (plus s (pos 1)) t

-- whether the bound holds in the assignment
abbrev pub is_met : Assignment → Bound → Bool
is_met s (at_most a b) = int_le (value s a) (value s b)

-- ---- one variable eliminated

-- what a bound says of one variable: nothing, that it is at least a term, or that it is at most a term
pub data Part : Type 0 where
  keep : Bound → Part
  above : Term → Part
  below : Term → Part

-- the number n, where the base is x
abbrev pub offset_by : Var → Option Var → ℤ → Option ℤ
offset_by x None n = None
offset_by x (Some v) n = cond (var_eq v x) (Some n) None

-- the number added to x, where the term's base is x
abbrev pub offset_at : Var → Term → Option ℤ
offset_at x t = offset_by x t.base t.offset

-- the bound s <= t as it speaks of x, where s adds c to x and t adds d to x, if they are terms of x at all. On both sides x
-- cancels out
abbrev pub part_by : Term → Term → Option ℤ → Option ℤ → Part
part_by s t None None = keep (at_most s t)
part_by s t None (Some d) = above (plus s (neg_ℤ d))
part_by s t (Some c) None = below (plus t (neg_ℤ c))
part_by s t (Some c) (Some d) = keep (at_most (number_term c) (number_term d))

-- the bound as it speaks of x
abbrev pub part : Var → Bound → Part
part x (at_most s t) = part_by s t (offset_at x s) (offset_at x t)

-- the bounds that say nothing of the variable
abbrev pub kept : List Part → List Bound
kept [] = []
kept (keep c ∷ ps) = c ∷ kept ps
kept (above s ∷ ps) = kept ps
kept (below s ∷ ps) = kept ps

-- the terms that the variable is at least
abbrev pub lows : List Part → List Term
lows [] = []
lows (keep c ∷ ps) = lows ps
lows (above s ∷ ps) = s ∷ lows ps
lows (below s ∷ ps) = lows ps

-- the terms that the variable is at most
abbrev pub highs : List Part → List Term
highs [] = []
highs (keep c ∷ ps) = highs ps
highs (above s ∷ ps) = highs ps
highs (below s ∷ ps) = s ∷ highs ps

-- each of the first is at most each of the second
abbrev pub pairs : List Term → List Term → List Bound
pairs ss ts = flat_map (λ s. map (at_most s) ts) ss

-- what is left without the variable: the bounds kept, and that each low is at most each high
unfoldable pub joined : List Part → List Bound
joined ps = kept ps ++ pairs (lows ps) (highs ps)

-- bounds without x, which integers meet exactly where they meet the given ones with some value for x
unfoldable pub eliminate : Var → List Bound → List Bound
eliminate x cs = joined (map (part x) cs)

-- ---- all variables eliminated
unfoldable pub eliminate_all : List Var → List Bound → List Bound
eliminate_all [] cs = cs
eliminate_all (x ∷ xs) cs = eliminate_all xs (eliminate x cs)

-- the variables of the two terms
abbrev pub bound_vars : Bound → List Var
bound_vars (at_most s t) = term_vars s ++ term_vars t

-- zero for each number, and no members
abbrev pub all_zero : Assignment
all_zero = record { number = λ v. pos 0; members = λ v. [] }

-- some integers meet all the bounds
unfoldable pub feasible : List Bound → Bool
feasible cs = list_all (is_met all_zero) (eliminate_all (flat_map bound_vars cs) cs)

-- ---- literals

-- the cases of a literal, of which one holds; one of sets says nothing here
abbrev pub cases_of : Lit → List (List Bound)
cases_of (Eq s t) = (at_most s t ∷ (at_most t s ∷ [])) ∷ []
cases_of (Ne s t) = (less s t ∷ []) ∷ ((less t s ∷ []) ∷ [])
cases_of (Le s t) = (at_most s t ∷ []) ∷ []
cases_of (Lt s t) = (less s t ∷ []) ∷ []
cases_of _ = [] ∷ []

-- two lists of cases, each case a list of facts that all hold: one case of each
unfoldable pub both : {X : Type 0} → List (List X) → List (List X) → List (List X)
both cs ds = flat_map (λ c. map (λ d. c ++ d) ds) cs

-- one case of each literal, in all ways
unfoldable pub all_cases : List Lit → List (List Bound)
all_cases [] = [] ∷ []
all_cases (l ∷ ls) = both (cases_of l) (all_cases ls)

-- some integers make the literals of integers true
unfoldable pub ints_fit : List Lit → Bool
ints_fit ls = list_any feasible (all_cases ls)
