-- The syntax of programs as trees. A place is that of a lexeme's first byte.
use Rattle.std.specs.Prelude.{List, ◌∷◌}
use Rattle.cyp_lex.specs.declared.ident.Ident.{Ident}
use Rattle.cyp_prog.specs.declared.stmt.TestSign.{TestSign}
pub use Rattle.cyp_prog.specs.declared.tree.ExprTree.{ExprTree}
pub use Rattle.cyp_prog.specs.declared.tree.ExprTree.TheVariants.{MinusNum, Num, Var, VarMinus, VarPlus}
pub use Rattle.cyp_prog.specs.declared.tree.PlaceTree.{PlaceTree}
pub use Rattle.cyp_prog.specs.declared.tree.PlaceTree.TheVariants.{PlaceExpr, PlaceMinus, PlaceNum, PlaceVar}
pub use Rattle.cyp_prog.specs.declared.tree.SourceTree.{SourceTree}
pub use Rattle.cyp_prog.specs.declared.tree.SourceTree.TheVariants.{FromCell, FromMalloc}
pub use Rattle.cyp_prog.specs.declared.tree.VarTree.{VarTree}

-- a statement, and statements one after another
mutual
  pub data StmtTree : Type 0 where
    LetStmt : VarTree → SourceTree → StmtTree
    StoreStmt : PlaceTree → ExprTree → StmtTree
    FreeStmt : ExprTree → StmtTree
    CallStmt : Ident → List ExprTree → StmtTree
    IfStmt : ExprTree → TestSign → ExprTree → BlockTree → BlockTree → StmtTree
    ErrorStmt : StmtTree

  pub data BlockTree : Type 0 where
    NoStmts : BlockTree
    Stmts : StmtTree → BlockTree → BlockTree

-- a procedure with its parameters
pub record ProcTree : Type 0 where
  pub name : Ident
  pub params : List VarTree
  pub body : BlockTree

-- a program of one procedure or more
pub record ProgramTree : Type 0 where
  pub first : ProcTree
  pub others : List ProcTree

-- the procedures of a program in order
abbrev pub procs_of : ProgramTree → List ProcTree
procs_of p = p.first ∷ p.others
