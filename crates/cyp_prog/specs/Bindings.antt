-- The faults of a program's tree: of variables, calls, names and sizes.
use Rattle.std.specs.Prelude.{◌&&◌, ◌++◌, ◌==◌, List, None, Option, Some, [], drop, flat_map, length, map, nat_le, not, suc, ℕ, ◌∷◌}
use Rattle.std.specs.List.{list_any}
use Rattle.std.specs.Str.{bytes_eq}
use Rattle.cyp_lex.specs.declared.ident.Ident.{Ident}
use Rattle.cyp_prog.specs.Faults.{DuplicateName, ProgFault, TooLarge, UnknownName, WrongArity, unless}
use Rattle.cyp_prog.specs.Trees.{BlockTree, CallStmt, ErrorStmt, ExprTree, FreeStmt, FromCell, FromMalloc, IfStmt, LetStmt, MinusNum, NoStmts, Num, PlaceExpr, PlaceMinus, PlaceNum, PlaceTree, PlaceVar, ProcTree, ProgramTree, SourceTree, StmtTree, Stmts, StoreStmt, Var, VarMinus, VarPlus, VarTree, procs_of}
use Rattle.cyp_prog.specs.TreePrograms.{proc_named}

-- the variables of an expression
abbrev pub expr_vars : ExprTree → List VarTree
expr_vars (Var v) = v ∷ []
expr_vars (Num n) = []
expr_vars (MinusNum n) = []
expr_vars (VarPlus v n) = v ∷ []
expr_vars (VarMinus v n) = v ∷ []

-- the variables of a place
abbrev pub place_vars : PlaceTree → List VarTree
place_vars (PlaceVar v) = v ∷ []
place_vars (PlaceNum n) = []
place_vars (PlaceMinus n) = []
place_vars (PlaceExpr e) = expr_vars e

-- variables that are used where v1 to vm are bound, and no others
abbrev pub use_faults : ℕ → List VarTree → List ProgFault
use_faults m vs = flat_map (λ (v : VarTree). unless (nat_le 1 v.number && nat_le v.number m) UnknownName v.place) vs

-- a parameter or a binder that is to have this number
abbrev pub binder_faults : ℕ → VarTree → List ProgFault
binder_faults k v = unless (v.number == k) UnknownName v.place

-- a block has 1 to 8 cells
abbrev pub size_faults : (place n : ℕ) → List ProgFault
size_faults p n = unless (nat_le 1 n && nat_le n 8) TooLarge p

-- the procedure that is named at this place is to be there, with so many parameters
abbrev pub arity_faults : Option ProcTree → ℕ → ℕ → List ProgFault
arity_faults None args p = record { kind = UnknownName; place = p } ∷ []
arity_faults (Some q) args p = unless (length q.params == args) WrongArity p

-- a call with so many arguments is of the first procedure of its name; so is the start of a run
abbrev pub call_faults : List ProcTree → Ident → ℕ → List ProgFault
call_faults qs i args = arity_faults (proc_named i.text qs) args i.place

-- what a `let` binds doesn't see the variable that it binds
abbrev pub source_faults : ℕ → SourceTree → List ProgFault
source_faults m (FromCell p) = use_faults m (place_vars p)
source_faults m (FromMalloc p n) = size_faults p n

-- how many variables are bound behind the statement, where m are before it: what a conditional binds isn't
abbrev pub bound_behind : ℕ → StmtTree → ℕ
bound_behind m (LetStmt v s) = suc m
bound_behind m s = m

abbrev mutual
  -- where v1 to vm are bound, in a program of these procedures
  pub stmt_faults : List ProcTree → ℕ → StmtTree → List ProgFault
  stmt_faults qs m (LetStmt v s) = binder_faults (suc m) v ++ source_faults m s
  stmt_faults qs m (StoreStmt p e) = use_faults m (place_vars p) ++ use_faults m (expr_vars e)
  stmt_faults qs m (FreeStmt e) = use_faults m (expr_vars e)
  stmt_faults qs m (CallStmt i es) = call_faults qs i (length es) ++ use_faults m (flat_map expr_vars es)
  stmt_faults qs m (IfStmt a s b then_part else_part) = use_faults m (expr_vars a) ++ use_faults m (expr_vars b) ++ block_faults qs m then_part ++ block_faults qs m else_part
  stmt_faults qs m ErrorStmt = []

  pub block_faults : List ProcTree → ℕ → BlockTree → List ProgFault
  block_faults qs m NoStmts = []
  block_faults qs m (Stmts s b) = stmt_faults qs m s ++ block_faults qs (bound_behind m s) b

-- the parameters are numbered in order from k on
abbrev pub param_faults : ℕ → List VarTree → List ProgFault
param_faults k [] = []
param_faults k (v ∷ vs) = binder_faults k v ++ param_faults (suc k) vs

-- the faults of a procedure: of its parameters, and of its body where these are bound
abbrev pub proc_faults : List ProcTree → ProcTree → List ProgFault
proc_faults qs q = param_faults 1 q.params ++ block_faults qs (length q.params) q.body

-- no procedure has the name of an earlier one; these are earlier
abbrev pub name_faults : List ProcTree → List ProcTree → List ProgFault
name_faults earlier [] = []
name_faults earlier (q ∷ qs) =
    unless (not (list_any (λ (r : ProcTree). bytes_eq r.name.text q.name.text) earlier)) DuplicateName q.name.place ++ name_faults (q ∷ earlier) qs

-- procedures that are too many
abbrev pub past_faults : List ProcTree → List ProgFault
past_faults qs = map (λ (q : ProcTree). record { kind = TooLarge; place = q.name.place }) qs

-- a program has at most 65,535 procedures
abbrev pub count_faults : List ProcTree → List ProgFault
count_faults qs = past_faults (drop 65535 qs)

-- all faults of a program of these procedures
abbrev pub procs_faults : List ProcTree → List ProgFault
procs_faults qs = name_faults [] qs ++ flat_map (proc_faults qs) qs ++ count_faults qs

-- all faults of the tree
abbrev pub program_faults : ProgramTree → List ProgFault
program_faults p = procs_faults (procs_of p)
