-- How statements, procedures and programs are read.
use Rattle.std.specs.Prelude.{Bool, List, Option, None, Some, [], length, suc, zero, ◌∷◌, ◌⊎◌, ℕ}
use Rattle.std.proofs.Common.{inl, inr}
use Rattle.cyp_lex.specs.Lexemes.{Lexeme, Said}
use Rattle.cyp_lex.specs.Readers.{Read, both, enclosed, first_tells, ident_token, is_name, is_sign, is_word, mapped, one_of, option_after, sign_token, stop, word_token}
use Rattle.cyp_lex.specs.declared.want.Want.TheVariants.{AName, NoName}
use Rattle.cyp_lex.specs.declared.ident.Ident.{Ident}
use Rattle.cyp_lex.specs.declared.token.Sign.TheVariants.{Assign, LeftBrace, LeftParen, RightBrace, RightParen, Semicolon, Star}
use Rattle.cyp_lex.specs.declared.token.Word.TheVariants.{Else, Error, Free, If, Let, Void}
use Rattle.cyp_prog.specs.ExprReaders.{SomeTest, args_at, expr_at, is_variable, place_at, source_at, test_at, variable_token}
use Rattle.cyp_prog.specs.declared.stmt.TestSign.{TestSign}
use Rattle.cyp_prog.specs.Trees.{BlockTree, CallStmt, ErrorStmt, ExprTree, FreeStmt, IfStmt, LetStmt, NoStmts, PlaceTree, ProcTree, ProgramTree, SourceTree, StmtTree, Stmts, StoreStmt, VarTree}

-- ---- statements; a block is read up to behind the brace that closes it

-- a call as it is read
abbrev pub SomeCall : Type 0
SomeCall = Ident × (Unit {0} × (List ExprTree × Unit {0}))

-- reads a call
abbrev pub call_at : List Lexeme → Read SomeCall
call_at ts = both ident_token (both (sign_token LeftParen) (both args_at (sign_token Semicolon))) ts

-- a binder as it is read
abbrev pub SomeLet : Type 0
SomeLet = Unit {0} × (VarTree × (Unit {0} × (SourceTree × Unit {0})))

-- reads a binder
abbrev pub let_at : List Lexeme → Read SomeLet
let_at ts = both (word_token Let) (both variable_token (both (sign_token Assign) (both source_at (sign_token Semicolon)))) ts

-- a store as it is read
abbrev pub SomeStore : Type 0
SomeStore = Unit {0} × (PlaceTree × (Unit {0} × (ExprTree × Unit {0})))

-- reads a store
abbrev pub store_at : List Lexeme → Read SomeStore
store_at ts = both (sign_token Star) (both place_at (both (sign_token Assign) (both expr_at (sign_token Semicolon)))) ts

-- a deallocation as it is read
abbrev pub SomeFree : Type 0
SomeFree = Unit {0} × (Unit {0} × (ExprTree × (Unit {0} × Unit {0})))

-- reads a deallocation
abbrev pub free_at : List Lexeme → Read SomeFree
free_at ts = both (word_token Free) (both (sign_token LeftParen) (both expr_at (both (sign_token RightParen) (sign_token Semicolon)))) ts

-- the other branch of a conditional as it is read
abbrev pub SomeElse : Type 0
SomeElse = Unit {0} × (Unit {0} × BlockTree)

-- a conditional as it is read
abbrev pub SomeIf : Type 0
SomeIf = Unit {0} × (SomeTest × (Unit {0} × (BlockTree × SomeElse)))

-- reads the other branch of a conditional, with this reader of blocks
abbrev pub else_with : (List Lexeme → Read BlockTree) → List Lexeme → Read SomeElse
else_with block ts = both (word_token Else) (both (sign_token LeftBrace) block) ts

-- reads a conditional, with this reader of blocks
abbrev pub if_with : (List Lexeme → Read BlockTree) → List Lexeme → Read SomeIf
if_with block ts = both (word_token If) (both test_at (both (sign_token LeftBrace) (both block (else_with block)))) ts

-- the statement `error` as it is read
abbrev pub SomeError : Type 0
SomeError = Unit {0} × Unit {0}

-- reads the statement `error`
abbrev pub error_at : List Lexeme → Read SomeError
error_at ts = both (word_token Error) (sign_token Semicolon) ts

-- each kind of statement

-- a call
abbrev pub call_stmt : List Lexeme → Read StmtTree
call_stmt ts = mapped (λ (x : SomeCall). CallStmt x.0 x.1.1.0) call_at ts

-- a `let`
abbrev pub let_stmt : List Lexeme → Read StmtTree
let_stmt ts = mapped (λ (x : SomeLet). LetStmt x.1.0 x.1.1.1.0) let_at ts

-- a store
abbrev pub store_stmt : List Lexeme → Read StmtTree
store_stmt ts = mapped (λ (x : SomeStore). StoreStmt x.1.0 x.1.1.1.0) store_at ts

-- a `free`
abbrev pub free_stmt : List Lexeme → Read StmtTree
free_stmt ts = mapped (λ (x : SomeFree). FreeStmt x.1.1.0) free_at ts

-- a conditional, with a reader of its blocks
abbrev pub if_stmt : (List Lexeme → Read BlockTree) → List Lexeme → Read StmtTree
if_stmt block ts = mapped (λ (x : SomeIf). IfStmt x.1.0.1.0 x.1.0.1.1.0 x.1.0.1.1.1.0 x.1.1.1.0 x.1.1.1.1.1.1) (if_with block) ts

-- `error`
abbrev pub error_stmt : List Lexeme → Read StmtTree
error_stmt ts = mapped (λ (x : SomeError). ErrorStmt) error_at ts

-- the two sides of a test and the comparison between them, in its parentheses
abbrev pub some_test : ExprTree × TestSign × ExprTree → SomeTest
some_test x = (tt, (x.0, (x.1, (x.2, tt))))

-- the lexeme begins a conditional or `error`
abbrev pub begins_if : Said → Bool
begins_if = one_of (is_word If) (is_word Error)

-- it begins one of these or a deallocation
abbrev pub begins_free : Said → Bool
begins_free = one_of (is_word Free) begins_if

-- it begins one of these or a store
abbrev pub begins_store : Said → Bool
begins_store = one_of (is_sign Star) begins_free

-- it begins one of these or a binder
abbrev pub begins_let : Said → Bool
begins_let = one_of (is_word Let) begins_store

-- the lexeme begins a statement
abbrev pub begins_stmt : Said → Bool
begins_stmt = one_of is_name begins_let

-- a statement as it is read
abbrev pub AnyStmt : Type 0
AnyStmt = SomeCall ⊎ (SomeLet ⊎ (SomeStore ⊎ (SomeFree ⊎ (SomeIf ⊎ SomeError))))

-- the tree of a statement
abbrev pub stmt_tree : AnyStmt → StmtTree
stmt_tree (inl x) = CallStmt x.0 x.1.1.0
stmt_tree (inr (inl x)) = LetStmt x.1.0 x.1.1.1.0
stmt_tree (inr (inr (inl x))) = StoreStmt x.1.0 x.1.1.1.0
stmt_tree (inr (inr (inr (inl x)))) = FreeStmt x.1.1.0
stmt_tree (inr (inr (inr (inr (inl x))))) = IfStmt x.1.0.1.0 x.1.0.1.1.0 x.1.0.1.1.1.0 x.1.1.1.0 x.1.1.1.1.1.1
stmt_tree (inr (inr (inr (inr (inr x))))) = ErrorStmt

-- a statement, with a reader of the blocks in it
abbrev pub stmt_with : (List Lexeme → Read BlockTree) → List Lexeme → Read StmtTree
stmt_with block ts =
    mapped stmt_tree (first_tells AName is_name begins_let call_at (first_tells NoName (is_word Let) begins_store let_at (first_tells NoName (is_sign Star) begins_free store_at
    (first_tells NoName (is_word Free) begins_if free_at (first_tells NoName (is_word If) (is_word Error) (if_with block) error_at))))) ts

-- what stands in a block as it is read: a statement and what follows it, or the closing brace
abbrev pub AnyBlock : Type 0
AnyBlock = (StmtTree × BlockTree) ⊎ Unit {0}

-- the tree of a block
abbrev pub block_tree : AnyBlock → BlockTree
block_tree (inl x) = Stmts x.0 x.1
block_tree (inr u) = NoStmts

-- the lexeme begins a statement or closes the block
abbrev pub begins_block : Said → Bool
begins_block = one_of begins_stmt (is_sign RightBrace)

-- statements up to behind the closing brace; the number is above that of the lexemes
abbrev pub block_in : ℕ → List Lexeme → Read BlockTree
block_in zero ts = stop NoName ts
block_in (suc n) ts = mapped block_tree (first_tells AName begins_stmt (is_sign RightBrace) (both (stmt_with (block_in n)) (block_in n)) (sign_token RightBrace)) ts

-- reads statements up to behind the closing brace
abbrev pub block_at : List Lexeme → Read BlockTree
block_at ts = block_in (suc (length ts)) ts

-- ---- procedures and programs

-- reads parameters up to the closing parenthesis
abbrev pub params_at : List Lexeme → Read (List VarTree)
params_at ts = enclosed NoName RightParen is_variable variable_token ts

-- a procedure as it is read
abbrev pub SomeProc : Type 0
SomeProc = Unit {0} × (Ident × (Unit {0} × (List VarTree × (Unit {0} × BlockTree))))

-- the tree of a procedure
abbrev pub proc_tree : SomeProc → ProcTree
proc_tree x = record { name = x.1.0; params = x.1.1.1.0; body = x.1.1.1.1.1 }

-- reads a procedure
abbrev pub proc_at : List Lexeme → Read ProcTree
proc_at ts = mapped proc_tree (both (word_token Void) (both ident_token (both (sign_token LeftParen) (both params_at (both (sign_token LeftBrace) block_at))))) ts

-- the tree of a program that begins with this procedure
abbrev pub others_tree : ProcTree → Option ProgramTree → ProgramTree
others_tree q None = record { first = q; others = [] }
others_tree q (Some p) = record { first = q; others = p.first ∷ p.others }

-- the tree of a program
abbrev pub program_tree : ProcTree × Option ProgramTree → ProgramTree
program_tree x = others_tree x.0 x.1

-- one procedure or more; the number is above that of the lexemes
abbrev pub program_in : ℕ → List Lexeme → Read ProgramTree
program_in zero ts = stop NoName ts
program_in (suc n) ts = mapped program_tree (option_after (is_word Void) proc_at (program_in n)) ts

-- reads a program
abbrev pub program_at : List Lexeme → Read ProgramTree
program_at ts = program_in (suc (length ts)) ts
