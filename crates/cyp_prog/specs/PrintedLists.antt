-- How lists of arguments and of parameters are printed, and the names of procedures.
use Rattle.std.specs.Prelude.{◌++◌, [], None, Option, Some, codes, suc, zero, ℕ}
use Rattle.cyp_prog.specs.ProgramText.{Bytes, expr_text, var_text}
use Rattle.cyp_prog.specs.declared.stmt.Expr.{Expr}
use Rattle.cyp_prog.specs.declared.stmt.Proc.{Proc}

-- the argument at this place, behind a comma if it isn't the first
abbrev pub arg_text : ℕ → Expr → Bytes
arg_text zero e = expr_text e
arg_text (suc k) e = codes ", " ++ expr_text e

-- the parameter at this place
abbrev pub parameter_text : ℕ → Bytes
parameter_text zero = var_text 1
parameter_text (suc k) = codes ", " ++ var_text (suc (suc k))

-- the name of a procedure, if there is one
abbrev pub proc_name : Option Proc → Bytes
proc_name None = []
proc_name (Some p) = p.name
