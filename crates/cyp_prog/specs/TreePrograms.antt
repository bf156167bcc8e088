-- Which program a tree stands for.
use Rattle.std.specs.Prelude.{List, None, Option, Some, length, map, neg_ℤ, not, pos, slice_get, Bool, ℕ}
use Rattle.std.specs.List.{prefix_len}
use Rattle.std.specs.Str.{bytes_eq}
use Rattle.cyp_prog.specs.Programs.{Body, Choosing, End, Failing, Giving, Invoking, Loading, Procedure, Statement, Storing, Taking, Then}
use Rattle.cyp_prog.specs.Trees.{BlockTree, CallStmt, ErrorStmt, ExprTree, FreeStmt, FromCell, FromMalloc, IfStmt, LetStmt, MinusNum, NoStmts, Num, PlaceExpr, PlaceMinus, PlaceNum, PlaceTree, PlaceVar, ProcTree, ProgramTree, SourceTree, StmtTree, Stmts, StoreStmt, Var, VarMinus, VarPlus, VarTree, procs_of}
use Rattle.cyp_prog.specs.declared.stmt.Expr.{Expr}

-- the procedure has another name
abbrev pub is_named_otherwise : List ℕ → ProcTree → Bool
is_named_otherwise name q = not (bytes_eq q.name.text name)

-- the place of the first procedure of this name, counted from 0
abbrev pub proc_place : List ℕ → List ProcTree → ℕ
proc_place name qs = prefix_len (is_named_otherwise name) qs

-- the first procedure of this name, if there is one
abbrev pub proc_named : List ℕ → List ProcTree → Option ProcTree
proc_named name qs = slice_get qs (proc_place name qs)

-- the expression that a tree says
abbrev pub expr_of : ExprTree → Expr
expr_of (Var v) = record { var = Some v.number; offset = pos 0 }
expr_of (Num n) = record { var = None; offset = pos n }
expr_of (MinusNum n) = record { var = None; offset = neg_ℤ (pos n) }
expr_of (VarPlus v n) = record { var = Some v.number; offset = pos n }
expr_of (VarMinus v n) = record { var = Some v.number; offset = neg_ℤ (pos n) }

-- the expression that a place says
abbrev pub place_of : PlaceTree → Expr
place_of (PlaceVar v) = expr_of (Var v)
place_of (PlaceNum n) = expr_of (Num n)
place_of (PlaceMinus n) = expr_of (MinusNum n)
place_of (PlaceExpr e) = expr_of e

-- a variable is bound to the content of a cell or to a new block
abbrev pub let_of : VarTree → SourceTree → Statement
let_of v (FromCell p) = Loading v.number (place_of p)
let_of v (FromMalloc p n) = Taking v.number n

abbrev mutual
  -- a call is of the first of these procedures that has its name
  pub stmt_of : List ProcTree → StmtTree → Statement
  stmt_of qs (LetStmt v s) = let_of v s
  stmt_of qs (StoreStmt p e) = Storing (place_of p) (expr_of e)
  stmt_of qs (FreeStmt e) = Giving (expr_of e)
  stmt_of qs (CallStmt i es) = Invoking (proc_place i.text qs) (map expr_of es)
  stmt_of qs (IfStmt a s b then_part else_part) = Choosing (record { left = expr_of a; sign = s; right = expr_of b }) (block_of qs then_part) (block_of qs else_part)
  stmt_of qs ErrorStmt = Failing

  pub block_of : List ProcTree → BlockTree → Body
  block_of qs NoStmts = End
  block_of qs (Stmts s b) = Then (stmt_of qs s) (block_of qs b)

-- the procedure that a tree says, in a program of these procedures
abbrev pub proc_of : List ProcTree → ProcTree → Procedure
proc_of qs q = record { name = q.name.text; params = length q.params; body = block_of qs q.body }

-- the program that a tree says
abbrev pub program_of_tree : ProgramTree → List Procedure
program_of_tree p = map (proc_of (procs_of p)) (procs_of p)
