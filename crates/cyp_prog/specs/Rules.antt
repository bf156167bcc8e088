-- The rules that programs keep: of variables, names, numbers of arguments, sizes, numbers and nesting.
use Rattle.std.specs.Prelude.{◌<◌, ◌≡◌, ◌≤◌, ◌≤ℤ◌, IfSome, List, None, Option, Some, [], length, map, neg_ℤ, pos, slice_get, suc, ◌∷◌, ℕ, ℤ}
use Rattle.std.specs.List.{IsDistinct}
use Rattle.std.specs.Str.{bytes_eq}
use Rattle.cyp_prog.specs.Programs.{Body, Choosing, End, Failing, Giving, Invoking, Loading, Procedure, Statement, Storing, Taking, Then}
use Rattle.cyp_prog.specs.declared.stmt.Expr.{Expr}

-- v1 to vm are bound, and no others
abbrev pub IsBound : ℕ → ℕ → Type 0
IsBound m v = (1 ≤ v) × (v ≤ m)

-- an expression where v1 to vm are bound
abbrev pub ExprFits : ℕ → Expr → Type 0
ExprFits m e = IfSome e.var (IsBound m)

-- the called procedure is there, and has so many parameters
abbrev pub HasParams : ℕ → Option Procedure → Type 0
HasParams args None = ⊥
HasParams args (Some q) = q.params ≡ args

-- how many variables are bound behind the statement, where m are before it: what a conditional binds isn't
abbrev pub bound_after : ℕ → Statement → ℕ
bound_after m (Loading v e) = suc m
bound_after m (Taking v n) = suc m
bound_after m s = m

-- each of the expressions fits
abbrev pub ExprsFit : ℕ → List Expr → Type 0
ExprsFit m [] = Unit {0}
ExprsFit m (e ∷ es) = ExprFits m e × ExprsFit m es

abbrev mutual
  -- a statement of a program of these procedures, where v1 to vm are bound
  pub StatementFits : List Procedure → ℕ → Statement → Type 0
  StatementFits ps m (Loading v e) = (v ≡ suc m) × ExprFits m e
  StatementFits ps m (Storing a e) = ExprFits m a × ExprFits m e
  StatementFits ps m (Taking v n) = (v ≡ suc m) × (1 ≤ n) × (n ≤ 8)
  StatementFits ps m (Giving e) = ExprFits m e
  StatementFits ps m (Invoking p es) = HasParams (length es) (slice_get ps p) × ExprsFit m es
  StatementFits ps m (Choosing t a b) = ExprFits m t.left × ExprFits m t.right × BodyFits ps m a × BodyFits ps m b
  StatementFits ps m Failing = Unit {0}

  pub BodyFits : List Procedure → ℕ → Body → Type 0
  BodyFits ps m End = Unit {0}
  BodyFits ps m (Then s b) = StatementFits ps m s × BodyFits ps (bound_after m s) b

-- an offset is at most 2^32 in size
abbrev pub IsOffset : ℤ → Type 0
IsOffset z = (neg_ℤ (pos 4294967296) ≤ℤ z) × (z ≤ℤ pos 4294967296)

-- each of the expressions has such an offset
abbrev pub OffsetsFit : List Expr → Type 0
OffsetsFit [] = Unit {0}
OffsetsFit (e ∷ es) = IsOffset e.offset × OffsetsFit es

abbrev mutual
  -- each offset of the statement is at most 2^32 in size
  pub StatementNumbersFit : Statement → Type 0
  StatementNumbersFit (Loading v e) = IsOffset e.offset
  StatementNumbersFit (Storing a e) = IsOffset a.offset × IsOffset e.offset
  StatementNumbersFit (Taking v n) = Unit {0}
  StatementNumbersFit (Giving e) = IsOffset e.offset
  StatementNumbersFit (Invoking p es) = OffsetsFit es
  StatementNumbersFit (Choosing t a b) = IsOffset t.left.offset × IsOffset t.right.offset × NumbersFit a × NumbersFit b
  StatementNumbersFit Failing = Unit {0}

  pub NumbersFit : Body → Type 0
  NumbersFit End = Unit {0}
  NumbersFit (Then s b) = StatementNumbersFit s × NumbersFit b

abbrev mutual
  -- fewer than 128 conditionals stand round each conditional; so many stand round this statement
  pub IsShallowStatement : ℕ → Statement → Type 0
  IsShallowStatement k (Loading v e) = Unit {0}
  IsShallowStatement k (Storing a e) = Unit {0}
  IsShallowStatement k (Taking v n) = Unit {0}
  IsShallowStatement k (Giving e) = Unit {0}
  IsShallowStatement k (Invoking p es) = Unit {0}
  IsShallowStatement k (Choosing t a b) = (k < 128) × IsShallowBody (suc k) a × IsShallowBody (suc k) b
  IsShallowStatement k Failing = Unit {0}

  pub IsShallowBody : ℕ → Body → Type 0
  IsShallowBody k End = Unit {0}
  IsShallowBody k (Then s b) = IsShallowStatement k s × IsShallowBody k b

-- a procedure of a program of these: at most 65,535 parameters, and a body that keeps the rules
pub record ProcedureFits (ps : List Procedure) (q : Procedure) : Type 0 where
  pub params : q.params ≤ 65535
  pub body : BodyFits ps q.params q.body
  pub numbers : NumbersFit q.body
  pub shallow : IsShallowBody 0 q.body

-- each of these procedures keeps the rules in a program of those
abbrev pub ProceduresFit : List Procedure → List Procedure → Type 0
ProceduresFit ps [] = Unit {0}
ProceduresFit ps (q ∷ qs) = ProcedureFits ps q × ProceduresFit ps qs

-- the names of procedures
abbrev pub names_of : List Procedure → List (List ℕ)
names_of ps = map (λ (p : Procedure). p.name) ps

-- at most 65,535 procedures with different names, one at least, and each keeps the rules of variables, numbers
-- of arguments, sizes, numbers and nesting
pub record KeepsRules (ps : List Procedure) : Type 0 where
  pub some : 0 < length ps
  pub few : length ps ≤ 65535
  pub names : IsDistinct bytes_eq (names_of ps)
  pub each : ProceduresFit ps ps
