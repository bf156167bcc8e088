-- The grammar of programs: which lexemes spell a tree.
--
--     program = proc { proc }
--     proc    = "void" NAME "(" [ VAR { "," VAR } ] ")" block
--     block   = "{" { stmt } "}"
--     stmt    = "let" VAR "=" "*" place ";" | "let" VAR "=" "malloc" "(" NUMBER ")" ";"
--             | "*" place "=" expr ";" | "free" "(" expr ")" ";"
--             | NAME "(" [ expr { "," expr } ] ")" ";"
--             | "if" "(" expr ( "==" | "!=" | "<=" | "<" ) expr ")" block "else" block
--             | "error" ";"
--     place   = VAR | NUMBER | "-" NUMBER | "(" expr ")"
--     expr    = VAR | NUMBER | "-" NUMBER | VAR ( "+" | "-" ) NUMBER
use Rattle.std.specs.Prelude.{List, [], ◌++◌, ◌∷◌, ℕ}
use Rattle.cyp_lex.specs.Lexemes.{Number, Symbol, Variable}
use Rattle.cyp_lex.specs.Spelling.{Any, At, Mark, all_spelling, ident, separated, sign, word}
use Rattle.cyp_lex.specs.declared.token.Sign.{Sign}
use Rattle.cyp_lex.specs.declared.token.Sign.TheVariants as signs
use Rattle.cyp_lex.specs.declared.token.Word.TheVariants as words
use Rattle.cyp_prog.specs.Trees.{BlockTree, CallStmt, ErrorStmt, ExprTree, FreeStmt, FromCell, FromMalloc, IfStmt, LetStmt, MinusNum, NoStmts, Num, PlaceExpr, PlaceMinus, PlaceNum, PlaceTree, PlaceVar, ProcTree, ProgramTree, SourceTree, StmtTree, Stmts, StoreStmt, Var, VarMinus, VarPlus, VarTree, procs_of}
use Rattle.cyp_prog.specs.declared.stmt.TestSign.{TestSign}
use Rattle.cyp_prog.specs.declared.stmt.TestSign.TheVariants.{AtMost, Below, Equal, Unequal}

-- a program variable at its place
abbrev pub variable : VarTree → Mark
variable v = At (Variable v.number) v.place

-- a number, wherever it stands
abbrev pub number : ℕ → Mark
number n = Any (Number n)

-- a variable, a number, or a variable and a number with `+` or `-` between them
abbrev pub expr_spelling : ExprTree → List Mark
expr_spelling (Var v) = variable v ∷ []
expr_spelling (Num n) = number n ∷ []
expr_spelling (MinusNum n) = sign signs.Minus ∷ number n ∷ []
expr_spelling (VarPlus v n) = variable v ∷ sign signs.Plus ∷ number n ∷ []
expr_spelling (VarMinus v n) = variable v ∷ sign signs.Minus ∷ number n ∷ []

-- a variable or a number, and any other expression in parentheses
abbrev pub place_spelling : PlaceTree → List Mark
place_spelling (PlaceVar v) = variable v ∷ []
place_spelling (PlaceNum n) = number n ∷ []
place_spelling (PlaceMinus n) = sign signs.Minus ∷ number n ∷ []
place_spelling (PlaceExpr e) = sign signs.LeftParen ∷ (expr_spelling e ++ sign signs.RightParen ∷ [])

-- `*` and a place, or `malloc` and a size
abbrev pub source_spelling : SourceTree → List Mark
source_spelling (FromCell p) = sign signs.Star ∷ place_spelling p
source_spelling (FromMalloc p n) = word words.Malloc ∷ sign signs.LeftParen ∷ At (Number n) p ∷ sign signs.RightParen ∷ []

-- the symbol of a comparison
abbrev pub test_sign : TestSign → Sign
test_sign Equal = signs.Equal
test_sign Unequal = signs.Unequal
test_sign AtMost = signs.AtMost
test_sign Below = signs.Less

-- the arguments with a comma between each two
abbrev pub args_spelling : List ExprTree → List Mark
args_spelling es = separated (Symbol signs.Comma) expr_spelling es

-- the two sides of a test and the comparison between them, in parentheses
abbrev pub test_spelling : ExprTree → TestSign → ExprTree → List Mark
test_spelling a s b = sign signs.LeftParen ∷ (expr_spelling a ++ (sign (test_sign s) ∷ (expr_spelling b ++ sign signs.RightParen ∷ [])))

abbrev mutual
  pub stmt_spelling : StmtTree → List Mark
  stmt_spelling (LetStmt v s) = word words.Let ∷ variable v ∷ sign signs.Assign ∷ (source_spelling s ++ sign signs.Semicolon ∷ [])
  stmt_spelling (StoreStmt p e) = sign signs.Star ∷ (place_spelling p ++ (sign signs.Assign ∷ (expr_spelling e ++ sign signs.Semicolon ∷ [])))
  stmt_spelling (FreeStmt e) = word words.Free ∷ sign signs.LeftParen ∷ (expr_spelling e ++ sign signs.RightParen ∷ sign signs.Semicolon ∷ [])
  stmt_spelling (CallStmt i es) = ident i ∷ sign signs.LeftParen ∷ (args_spelling es ++ sign signs.RightParen ∷ sign signs.Semicolon ∷ [])
  stmt_spelling (IfStmt a s b then_part else_part) =
      word words.If ∷ (test_spelling a s b ++ (sign signs.LeftBrace ∷ (stmts_spelling then_part ++ (sign signs.RightBrace
      ∷ word words.Else ∷ sign signs.LeftBrace ∷ (stmts_spelling else_part ++ sign signs.RightBrace ∷ [])))))
  stmt_spelling ErrorStmt = word words.Error ∷ sign signs.Semicolon ∷ []

  -- the statements of a block, without its braces
  pub stmts_spelling : BlockTree → List Mark
  stmts_spelling NoStmts = []
  stmts_spelling (Stmts s b) = stmt_spelling s ++ stmts_spelling b

-- a parameter is a variable
abbrev pub param_spelling : VarTree → List Mark
param_spelling v = variable v ∷ []

-- the parameters with a comma between each two
abbrev pub params_spelling : List VarTree → List Mark
params_spelling vs = separated (Symbol signs.Comma) param_spelling vs

-- `void`, the name, the parameters in parentheses and the body in braces
abbrev pub proc_spelling : ProcTree → List Mark
proc_spelling p =
    word words.Void ∷ ident p.name ∷ sign signs.LeftParen
    ∷ (params_spelling p.params ++ (sign signs.RightParen ∷ sign signs.LeftBrace ∷ (stmts_spelling p.body ++ sign signs.RightBrace ∷ [])))

-- the procedures one after another
abbrev pub program_spelling : ProgramTree → List Mark
program_spelling p = all_spelling proc_spelling (procs_of p)
