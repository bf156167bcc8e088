-- What one turn of solving leaves.
use Rattle.std.specs.Prelude.{◌≡◌, Err, List, None, Ok, Option, Result, suc, ℕ}
use Rattle.cyp_heap.specs.declared.goal.Node.{Node}
use Rattle.cyp_term.specs.declared.fail.Fail.{Fail}
use Rattle.cyp_term.specs.declared.fail.Fail.TheVariants.{Named, NoMemory}
use Rattle.cyp_term.specs.declared.term.Var.{Var}
use Rattle.cyp_term.specs.Terms.{var_in}

-- what is left is solved in as many turns less one, or the node can't be solved, whatever the number of turns
abbrev pub Turned : {E : Type 0} → (ℕ → Node → Option Node) → Node → Result Node (Fail E) → Type 0
Turned solve n (Ok m) = (k : ℕ) → solve (suc k) n ≡ solve k m
Turned solve n (Err (Named e)) = (k : ℕ) → solve (suc k) n ≡ None
Turned solve n (Err NoMemory) = Unit {0}

-- the first list has the variables of the second, and no others
abbrev pub HasVars : List Var → List Var → Type 0
HasVars us vs = (v : Var) → var_in v us ≡ var_in v vs

-- the nodes have the same program variables and existentials
pub record SameNames (n m : Node) : Type 0 where
  pub program : m.goal.program ≡ n.goal.program
  pub exist : m.goal.exist ≡ n.goal.exist
