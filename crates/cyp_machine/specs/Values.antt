-- The values of a program's variables, expressions and tests.
use Rattle.std.specs.Prelude.{[], ◌+ℤ◌, ◌==◌, Bool, List, None, Option, Some, cond, int_le, int_lt, not, pos, suc, ℕ, ℤ, ◌∷◌}
use Rattle.std.specs.Ordering.{int_eq}
use Rattle.cyp_prog.specs.declared.stmt.Expr.{Expr}
use Rattle.cyp_prog.specs.declared.stmt.Test.{Test}
use Rattle.cyp_prog.specs.declared.stmt.TestSign.{TestSign}
use Rattle.cyp_prog.specs.declared.stmt.TestSign.TheVariants.{AtMost, Below, Equal, Unequal}

-- the values of variables by their numbers, the latest first: a variable that is bound again hides the older value
abbrev pub Values : Type 0
Values = List (ℕ × ℤ)

-- the latest value of the variable with this number, and 0 where it has none
abbrev pub lookup : Values → ℕ → ℤ
lookup [] v = pos 0
lookup (p ∷ ps) v = cond (p.0 == v) p.1 (lookup ps v)

-- the value of the variable, and 0 where there is none
abbrev pub var_value : Values → Option ℕ → ℤ
var_value vs None = pos 0
var_value vs (Some v) = lookup vs v

-- the integer that an expression stands for: its variable's value plus its offset
abbrev pub expr_value : Values → Expr → ℤ
expr_value vs e = var_value vs e.var +ℤ e.offset

-- the comparison of two integers that the sign stands for
abbrev pub compare_by : TestSign → ℤ → ℤ → Bool
compare_by Equal a b = int_eq a b
compare_by Unequal a b = not (int_eq a b)
compare_by AtMost a b = int_le a b
compare_by Below a b = int_lt a b

-- the test holds
abbrev pub test_value : Values → Test → Bool
test_value vs t = compare_by t.sign (expr_value vs t.left) (expr_value vs t.right)

-- the variables from this number on have these values: the parameters of a procedure that begins are v1, v2 and so on
abbrev pub params_from : ℕ → List ℤ → Values
params_from k [] = []
params_from k (z ∷ zs) = (k, z) ∷ params_from (suc k) zs
