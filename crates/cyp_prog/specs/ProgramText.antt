-- How a program is printed.
use Rattle.std.specs.Prelude.{[], ◌++◌, List, None, Option, Some, codes, decimal, map, negsuc, pos, suc, zero, ℕ, ℤ, ◌∷◌}
use Rattle.cyp_prog.specs.Programs.{Body, Choosing, End, Failing, Giving, Invoking, Loading, Procedure, Statement, Storing, Taking, Then}
use Rattle.cyp_prog.specs.declared.stmt.Expr.{Expr}
use Rattle.cyp_prog.specs.declared.stmt.Test.{Test}
use Rattle.cyp_prog.specs.declared.stmt.TestSign.{TestSign}
use Rattle.cyp_prog.specs.declared.stmt.TestSign.TheVariants.{AtMost, Below, Equal, Unequal}

-- a text as the codes of its bytes
abbrev pub Bytes : Type 0
Bytes = List ℕ

-- an integer in decimal, with `-` in front of a negative one
abbrev pub number_text : ℤ → Bytes
number_text (pos n) = decimal n
number_text (negsuc n) = codes "-" ++ decimal (suc n)

-- a program variable: `v` and its number
abbrev pub var_text : ℕ → Bytes
var_text v = codes "v" ++ decimal v

-- an offset behind a variable; 0 isn't printed
abbrev pub offset_text : ℤ → Bytes
offset_text (pos zero) = []
offset_text (pos (suc n)) = codes " + " ++ decimal (suc n)
offset_text (negsuc n) = codes " - " ++ decimal (suc n)

-- a variable with an offset behind it, or the offset alone where there is no variable
abbrev pub based_text : Option ℕ → ℤ → Bytes
based_text None z = number_text z
based_text (Some v) z = var_text v ++ offset_text z

-- an expression, such as `v1`, `v1 + 2` or `-3`
abbrev pub expr_text : Expr → Bytes
expr_text e = based_text e.var e.offset

-- a variable with an offset other than 0 is in parentheses; anything else is printed bare
abbrev pub place_by : Option ℕ → ℤ → Bytes
place_by (Some v) (pos zero) = var_text v
place_by (Some v) z = codes "(" ++ based_text (Some v) z ++ codes ")"
place_by None z = number_text z

-- the place that is read or written; a sum is in parentheses
abbrev pub place_text : Expr → Bytes
place_text e = place_by e.var e.offset

-- the texts in order, with a comma and a blank between neighbours
abbrev pub join_with_comma : List Bytes → Bytes
join_with_comma [] = []
join_with_comma (a ∷ []) = a
join_with_comma (a ∷ b ∷ bs) = a ++ codes ", " ++ join_with_comma (b ∷ bs)

-- the comparison operator with a blank on each side
abbrev pub test_sign_text : TestSign → Bytes
test_sign_text Equal = codes " == "
test_sign_text Unequal = codes " != "
test_sign_text AtMost = codes " <= "
test_sign_text Below = codes " < "

-- the left side, the comparison operator and the right side of a test
abbrev pub test_text : Test → Bytes
test_text t = expr_text t.left ++ test_sign_text t.sign ++ expr_text t.right

-- two blanks for each level
abbrev pub blanks : ℕ → Bytes
blanks zero = []
blanks (suc k) = 32 ∷ 32 ∷ blanks k

-- a line at a level
abbrev pub line : ℕ → Bytes → Bytes
line k text = blanks k ++ text ++ 10 ∷ []

-- the name at this place, counted from 0; empty where the list is too short
abbrev pub name_at : List Bytes → ℕ → Bytes
name_at [] k = []
name_at (n ∷ ns) zero = n
name_at (n ∷ ns) (suc k) = name_at ns k

abbrev mutual
  -- the names are those of the procedures in order
  pub body_text : List Bytes → ℕ → Body → Bytes
  body_text names k End = []
  body_text names k (Then s b) = statement_text names k s ++ body_text names k b

  pub statement_text : List Bytes → ℕ → Statement → Bytes
  statement_text names k (Loading v e) = line k (codes "let " ++ var_text v ++ codes " = *" ++ place_text e ++ codes ";")
  statement_text names k (Storing a e) = line k (codes "*" ++ place_text a ++ codes " = " ++ expr_text e ++ codes ";")
  statement_text names k (Taking v n) = line k (codes "let " ++ var_text v ++ codes " = malloc(" ++ decimal n ++ codes ");")
  statement_text names k (Giving e) = line k (codes "free(" ++ expr_text e ++ codes ");")
  statement_text names k (Invoking p es) = line k (name_at names p ++ codes "(" ++ join_with_comma (map expr_text es) ++ codes ");")
  statement_text names k (Choosing t a b) =
      line k (codes "if (" ++ test_text t ++ codes ") {") ++ body_text names (suc k) a
      ++ line k (codes "} else {") ++ body_text names (suc k) b ++ line k (codes "}")
  statement_text names k Failing = line k (codes "error;")

-- this many parameters, numbered upwards from `k`
abbrev pub params_text : ℕ → ℕ → List Bytes
params_text k zero = []
params_text k (suc n) = var_text k ∷ params_text (suc k) n

-- the head of a procedure with its parameters, its body one level in, and the closing brace
abbrev pub procedure_text : List Bytes → Procedure → Bytes
procedure_text names p =
    line 0 (codes "void " ++ p.name ++ codes "(" ++ join_with_comma (params_text 1 p.params) ++ codes ") {") ++ body_text names 1 p.body ++ line 0 (codes "}")

-- the procedures in order; calls in them refer to these names
abbrev pub procedures_text : List Bytes → List Procedure → Bytes
procedures_text names [] = []
procedures_text names (p ∷ ps) = procedure_text names p ++ procedures_text names ps

-- the printed form of a program
abbrev pub program_text : List Procedure → Bytes
program_text ps = procedures_text (map (λ (p : Procedure). p.name) ps) ps
