-- Integers for the variables of literals, and what a solution of literals is.
use Rattle.std.specs.Prelude.{◌≡◌, ℕ, suc, ℤ, pos, ◌-ℤ◌, cond, List, [], ◌∷◌, map, Option, Some, None, IsTrue}
use Rattle.std.specs.List.{All}
use Rattle.cyp_term.specs.declared.lit.Lit.{Lit}
use Rattle.cyp_term.specs.declared.term.Var.{Var}
use Rattle.cyp_term.specs.Integers.{is_int_lit}
use Rattle.cyp_term.specs.Meaning.{AllTrue, Assignment, Satisfiable}
use Rattle.cyp_term.specs.Terms.{lits_vars, var_eq, without_repeats}
use Rattle.cyp_diff.specs.declared.solver.Value.{Value}

-- the variables of the literals, in order of first occurrence
abbrev pub variables : List Lit → List Var
variables ls = without_repeats var_eq (lits_vars ls)

-- each literal compares integers
abbrev pub AreInts : List Lit → Type 0
AreInts ls = All (λ l. IsTrue (is_int_lit l)) ls

-- the value of the variable, and 0 where it has none
abbrev pub value_in : List Value → Var → ℤ
value_in [] v = pos 0
value_in (b ∷ bs) v = cond (var_eq b.var v) b.value (value_in bs v)

-- the assignment that gives the values, and no members
abbrev pub given : List Value → Assignment
given bs = record { number = value_in bs; members = λ v. [] }

-- the values of the variables at the places from k on, above that at the first place
abbrev pub values_from : (ℕ → ℤ) → List Var → ℕ → List Value
values_from x [] k = []
values_from x (v ∷ vs) k = record { var = v; value = x k -ℤ x 0 } ∷ values_from x vs (suc k)

-- None where no assignment makes all literals true, and else values for their variables in order of first occurrence, which do
abbrev pub SolveMeans : List Lit → Option (List Value) → Type 0
SolveMeans ls None = Satisfiable ls → ⊥
SolveMeans ls (Some bs) = (map (λ (b : Value). b.var) bs ≡ variables ls) × AllTrue (given bs) ls
