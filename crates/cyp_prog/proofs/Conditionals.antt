-- Conditionals of the code's programs and trees, one level at a time.
use Rattle.std.proofs.Common.{◌≡◌, ◌∙◌, List, ap, map, sym}
use Rattle.cyp_prog.specs.ParsedTrees.{block_tree_of, stmt_step, stmt_tree_of}
use Rattle.cyp_prog.specs.Programs.{Choosing, Statement, body_of, plain_step, plain_stmt}
use Rattle.cyp_prog.specs.Trees.{ExprTree, IfStmt, StmtTree}
use Rattle.cyp_prog.specs.declared.stmt.Stmt.{Stmt}
use Rattle.cyp_prog.specs.declared.stmt.Stmt.TheFolds.{fold-roll-Stmt}
use Rattle.cyp_prog.specs.declared.stmt.Stmt.TheOpen as stmt_layer
use Rattle.cyp_prog.specs.declared.stmt.Stmt.TheVariants as stmts
use Rattle.cyp_prog.specs.declared.stmt.Test.{Test}
use Rattle.cyp_prog.specs.declared.stmt.TestSign.{TestSign}
use Rattle.cyp_prog.specs.declared.tree.ParsedStmt.{ParsedStmt}
use Rattle.cyp_prog.specs.declared.tree.ParsedStmt.TheFolds.{fold-roll-ParsedStmt}
use Rattle.cyp_prog.specs.declared.tree.ParsedStmt.TheOpen as tree_layer
use Rattle.cyp_prog.specs.declared.tree.ParsedStmt.TheVariants as trees

pub plain_if : (t : Test) (a b : List Stmt) → plain_stmt (stmts.If t a b) ≡ Choosing t (body_of (map plain_stmt a)) (body_of (map plain_stmt b))
plain_if t a b = ap plain_stmt (sym (stmts.rolls-If t a b)) ∙ fold-roll-Stmt Statement plain_step (stmt_layer.If t a b)

pub tree_if : (a : ExprTree) (s : TestSign) (b : ExprTree) (t e : List ParsedStmt) → stmt_tree_of (trees.If a s b t e) ≡ IfStmt a s b (block_tree_of t) (block_tree_of e)
tree_if a s b t e = ap stmt_tree_of (sym (trees.rolls-If a s b t e)) ∙ fold-roll-ParsedStmt StmtTree stmt_step (tree_layer.If a s b t e)
