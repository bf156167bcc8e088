-- What the variables of a goal are called in the program.
use Rattle.std.specs.Prelude.{[], List, None, Option, Some, cond, length, pos, zip, ℕ, ◌∷◌}
use Rattle.cyp_heap.specs.declared.goal.Node.{Node}
use Rattle.cyp_pred.specs.Unfold.{count_from}
use Rattle.cyp_prog.specs.declared.stmt.Expr.{Expr}
use Rattle.cyp_prog.specs.declared.stmt.Test.{Test}
use Rattle.cyp_prog.specs.declared.stmt.TestSign.TheVariants.{AtMost, Below, Equal, Unequal}
use Rattle.cyp_term.specs.Terms.{number_term, var_eq}
use Rattle.cyp_term.specs.declared.lit.Lit.{Lit}
use Rattle.cyp_term.specs.declared.lit.Lit.TheVariants.{Eq, Le, Lt, Ne}
use Rattle.cyp_term.specs.declared.term.Term.{Term}
use Rattle.cyp_term.specs.declared.term.Var.{Var}

-- what each program variable of a goal is called: the number of a variable of the program
abbrev pub Names : Type 0
Names = List (Var × ℕ)

-- the number of the program variable that stands for this one; 0 where it has no name
abbrev pub name_of : Names → Var → ℕ
name_of [] v = 0
name_of (p ∷ ps) v = cond (var_eq p.0 v) p.1 (name_of ps v)

-- the name of a term's base, where it has one
abbrev pub base_name : Names → Option Var → Option ℕ
base_name names None = None
base_name names (Some v) = Some (name_of names v)

-- the expression that computes a term: the name of its base plus its offset
abbrev pub expr_of : Names → Term → Expr
expr_of names t = record { var = base_name names t.base; offset = t.offset }

-- the test that decides an integer literal; `0 == 0` for a literal of another kind
abbrev pub test_of : Names → Lit → Test
test_of names (Eq a b) = record { left = expr_of names a; sign = Equal; right = expr_of names b }
test_of names (Ne a b) = record { left = expr_of names a; sign = Unequal; right = expr_of names b }
test_of names (Le a b) = record { left = expr_of names a; sign = AtMost; right = expr_of names b }
test_of names (Lt a b) = record { left = expr_of names a; sign = Below; right = expr_of names b }
test_of names _ = record { left = expr_of names (number_term (pos 0)); sign = Equal; right = expr_of names (number_term (pos 0)) }

-- the names of a procedure's parameters: v1, v2 and so on
abbrev pub param_names : Node → Names
param_names n = zip n.goal.program (count_from 1 (length n.goal.program))
