-- Places of variables: the first is zero, and the others are the variables' in their order.
use Rattle.std.specs.Prelude.{◌≡◌, ℕ, zero, suc, ◌+◌, ◌*◌, ◌<◌, ℤ, ◌+ℤ◌, ◌≤ℤ◌, ◌<ℤ◌, cond, List, [], ◌∷◌, Option, Some, None, slice_index_or}
use Rattle.cyp_term.specs.declared.lit.Lit.{Lit}
use Rattle.cyp_term.specs.declared.lit.Lit.TheVariants.{Eq, Ne, Le, Lt}
use Rattle.cyp_term.specs.declared.term.Sort.{Sort}
use Rattle.cyp_term.specs.declared.term.Sort.TheVariants.{Int, Card, Set}
use Rattle.cyp_term.specs.declared.term.Term.{Term}
use Rattle.cyp_term.specs.declared.term.Var.{Var}
use Rattle.cyp_term.specs.Terms.{var_eq}

-- one place further, where there is one
abbrev pub further : ℕ → ℕ
further zero = zero
further (suc k) = suc (suc k)

-- the place of the variable, which is 0 where it isn't in the list
abbrev pub var_place : List Var → Var → ℕ
var_place [] v = 0
var_place (w ∷ ws) v = cond (var_eq w v) 1 (further (var_place ws v))

-- a number for each sort
abbrev pub sort_number : Sort → ℕ
sort_number Int = 0
sort_number Card = 1
sort_number Set = 2

-- where a variable stands in a table
abbrev pub table_place : Var → ℕ
table_place v = 256 * sort_number v.sort + v.number

-- the table has the place of each variable
abbrev pub TellsPlaces : List Var → List ℕ → Type 0
TellsPlaces vs table = (v : Var) → v.number < 256 → slice_index_or table (table_place v) 0 ≡ var_place vs v

-- the place of a term's base
abbrev pub base_place : List Var → Option Var → ℕ
base_place vs None = 0
base_place vs (Some v) = var_place vs v

-- the value of a term where integers are at the places
abbrev pub level : List Var → (ℕ → ℤ) → Term → ℤ
level vs x t = x (base_place vs t.base) +ℤ t.offset

-- the literal holds of the integers at the places
abbrev pub Holds : List Var → (ℕ → ℤ) → Lit → Type 0
Holds vs x (Eq a b) = level vs x a ≡ level vs x b
Holds vs x (Ne a b) = level vs x a ≡ level vs x b → ⊥
Holds vs x (Le a b) = level vs x a ≤ℤ level vs x b
Holds vs x (Lt a b) = level vs x a <ℤ level vs x b
Holds vs x _ = Unit {0}
