-- Programs as plain trees, and the plain tree of the code's program.
use Rattle.std.specs.Prelude.{[], List, map, ℕ, ◌∷◌}
use Rattle.cyp_prog.specs.ProgramValue.{ProgramValue}
use Rattle.cyp_prog.specs.declared.stmt.Expr.{Expr}
use Rattle.cyp_prog.specs.declared.stmt.Proc.{Proc}
use Rattle.cyp_prog.specs.declared.stmt.Stmt.{Stmt, fold-Stmt, roll-Stmt}
use Rattle.cyp_prog.specs.declared.stmt.Stmt.TheOpen.{Stmt-F, Load, Store, Take, Give, Invoke, If, Error}
use Rattle.cyp_prog.specs.declared.stmt.Test.{Test}

-- a statement with its expressions; a call names a procedure by its place
mutual
  pub data Statement : Type 0 where
    Loading : ℕ → Expr → Statement
    Storing : Expr → Expr → Statement
    Taking : ℕ → ℕ → Statement
    Giving : Expr → Statement
    Invoking : ℕ → List Expr → Statement
    Choosing : Test → Body → Body → Statement
    Failing : Statement

  -- statements one after another
  pub data Body : Type 0 where
    End : Body
    Then : Statement → Body → Body

-- a procedure: its name's bytes, how many of the first variables are its parameters, and its body
pub record Procedure : Type 0 where
  pub name : List ℕ
  pub params : ℕ
  pub body : Body

-- the statements of a list
abbrev pub body_of : List Statement → Body
body_of [] = End
body_of (s ∷ ss) = Then s (body_of ss)

-- one statement over the plain statements of its blocks
abbrev pub plain_step : Stmt-F Statement → Statement
plain_step (Load v e) = Loading v e
plain_step (Store a e) = Storing a e
plain_step (Take v n) = Taking v n
plain_step (Give e) = Giving e
plain_step (Invoke p es) = Invoking p es
plain_step (If t a b) = Choosing t (body_of a) (body_of b)
plain_step Error = Failing

-- the plain tree of the code's statement
abbrev pub plain_stmt : Stmt → Statement
plain_stmt s = fold-Stmt Statement plain_step s

-- the plain tree of the code's procedure
abbrev pub plain_proc : Proc → Procedure
plain_proc p = record { name = p.name; params = p.params; body = body_of (map plain_stmt p.body) }

-- the plain trees of a program's procedures in order, the main one first
abbrev pub plain_program : ProgramValue → List Procedure
plain_program p = map plain_proc p.procs

abbrev mutual
  -- the code's statement and statements of a plain one
  pub stmt_of : Statement → Stmt
  stmt_of (Loading v e) = roll-Stmt (Load v e)
  stmt_of (Storing a e) = roll-Stmt (Store a e)
  stmt_of (Taking v n) = roll-Stmt (Take v n)
  stmt_of (Giving e) = roll-Stmt (Give e)
  stmt_of (Invoking p es) = roll-Stmt (Invoke p es)
  stmt_of (Choosing t a b) = roll-Stmt (If t (stmts_of a) (stmts_of b))
  stmt_of Failing = roll-Stmt Error

  pub stmts_of : Body → List Stmt
  stmts_of End = []
  stmts_of (Then s b) = stmt_of s ∷ stmts_of b
