-- The trees that the code's trees stand for.
use Rattle.std.specs.Prelude.{[], List, map, ◌∷◌}
use Rattle.cyp_prog.specs.Trees.{BlockTree, CallStmt, ErrorStmt, FreeStmt, IfStmt, LetStmt, NoStmts, ProcTree, ProgramTree, StmtTree, Stmts, StoreStmt}
use Rattle.cyp_prog.specs.declared.tree.ParsedProc.{ParsedProc}
use Rattle.cyp_prog.specs.declared.tree.ParsedProgram.{ParsedProgram}
use Rattle.cyp_prog.specs.declared.tree.ParsedStmt.{ParsedStmt, fold-ParsedStmt}
use Rattle.cyp_prog.specs.declared.tree.ParsedStmt.TheOpen.{ParsedStmt-F, Let, Store, Free, Call, If, Error}

-- the statements of a list
abbrev pub block_of_list : List StmtTree → BlockTree
block_of_list [] = NoStmts
block_of_list (s ∷ ss) = Stmts s (block_of_list ss)

-- one statement over the trees of its blocks
abbrev pub stmt_step : ParsedStmt-F StmtTree → StmtTree
stmt_step (Let v s) = LetStmt v s
stmt_step (Store p e) = StoreStmt p e
stmt_step (Free e) = FreeStmt e
stmt_step (Call i es) = CallStmt i es
stmt_step (If a s b t e) = IfStmt a s b (block_of_list t) (block_of_list e)
stmt_step Error = ErrorStmt

-- the tree of a statement
abbrev pub stmt_tree_of : ParsedStmt → StmtTree
stmt_tree_of s = fold-ParsedStmt StmtTree stmt_step s

-- the tree of the statements of a block
abbrev pub block_tree_of : List ParsedStmt → BlockTree
block_tree_of ss = block_of_list (map stmt_tree_of ss)

-- the tree of a procedure
abbrev pub proc_tree_of : ParsedProc → ProcTree
proc_tree_of p = record { name = p.name; params = p.params; body = block_tree_of p.body }

-- the tree of a program
abbrev pub program_tree_of : ParsedProgram → ProgramTree
program_tree_of p = record { first = proc_tree_of p.first; others = map proc_tree_of p.others }
