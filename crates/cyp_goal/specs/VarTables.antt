-- Tables of variables: which have come, in which order, and the place of each among those of its sort.
use Rattle.std.specs.Prelude.{◌≡◌, ◌+◌, ◌<◌, ◌==◌, List, cond, get_or, length, not, suc, take, ℕ}
use Rattle.std.specs.List.{count_by}
use Rattle.cyp_goal.specs.Numbering.{rank_in}
use Rattle.cyp_term.specs.Terms.{sort_eq, var_in}
use Rattle.cyp_term.specs.declared.term.Sort.{Sort}
use Rattle.cyp_term.specs.declared.term.Sort.TheVariants.{Card, Int, Set}
use Rattle.cyp_term.specs.declared.term.Var.{Var}

-- how many of the variables have this sort
abbrev pub number_of_sort : List Var → Sort → ℕ
number_of_sort vs s = count_by (λ (w : Var). sort_eq w.sort s) vs

-- one more than the variable's place among those of its sort, or 0 where it isn't there
abbrev pub slot : List Var → Var → ℕ
slot vs v = cond (var_in v vs) (suc (rank_in vs v)) 0

-- the slots of one sort say the place of each variable of that sort, and as many are filled as there are such variables
pub record IsPlaced (vs : List Var) (s : Sort) (slots : List ℕ) (filled : ℕ) : Type 0 where
  pub long : length slots ≡ 256
  pub places : (n : ℕ) → n < 256 → get_or slots n 0 ≡ slot vs (record { sort = s; number = n })
  pub many : filled ≡ number_of_sort vs s
  pub taken : filled ≡ count_by (λ k. not (k == 0)) slots

-- the first of the listed variables are the table's, the slots of each sort tell their places, and there are as many as are filled
pub record IsTable (order : List Var) (len : ℕ) (ints : List ℕ) (int_count : ℕ) (cards : List ℕ) (card_count : ℕ) (sets : List ℕ) (set_count : ℕ) : Type 0 where
  pub int_places : IsPlaced (take len order) Int ints int_count
  pub card_places : IsPlaced (take len order) Card cards card_count
  pub set_places : IsPlaced (take len order) Set sets set_count
  pub total : len ≡ int_count + card_count + set_count
  pub long : length order ≡ 768
