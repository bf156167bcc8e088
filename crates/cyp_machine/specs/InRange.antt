-- Programs whose numbers, sizes and calls are in the ranges that the grammar of programs allows.
use Rattle.std.specs.List.{list_all}
use Rattle.std.specs.Prelude.{◌&&◌, Bool, IsTrue, List, length, nat_le, nat_lt, neg_ℤ, pos, int_le, true, ℕ, ℤ}
use Rattle.cyp_machine.specs.States.{Frame, State}
use Rattle.cyp_prog.specs.Programs.{Body, Choosing, End, Failing, Giving, Invoking, Loading, Procedure, Statement, Storing, Taking, Then}
use Rattle.cyp_prog.specs.declared.stmt.Expr.{Expr}
use Rattle.cyp_prog.specs.declared.stmt.Test.{Test}

-- an offset is at most 2 ^ 32 in size
abbrev pub offset_in_range : ℤ → Bool
offset_in_range z = int_le (neg_ℤ (pos 4294967296)) z && int_le z (pos 4294967296)

-- the offset of an expression is in range
abbrev pub expr_in_range : Expr → Bool
expr_in_range e = offset_in_range e.offset

-- both sides of a test are in range
abbrev pub test_in_range : Test → Bool
test_in_range t = expr_in_range t.left && expr_in_range t.right

abbrev mutual
  -- with calls of this many procedures
  pub body_in_range : ℕ → Body → Bool
  body_in_range n End = true
  body_in_range n (Then s b) = statement_in_range n s && body_in_range n b

  -- a block has 1 to 8 cells, and a call names a procedure and has at most 65,535 arguments
  pub statement_in_range : ℕ → Statement → Bool
  statement_in_range n (Loading v e) = expr_in_range e
  statement_in_range n (Storing a e) = expr_in_range a && expr_in_range e
  statement_in_range n (Taking v k) = nat_le 1 k && nat_le k 8
  statement_in_range n (Giving e) = expr_in_range e
  statement_in_range n (Invoking p es) = nat_lt p n && (nat_le (length es) 65535 && list_all expr_in_range es)
  statement_in_range n (Choosing t a b) = test_in_range t && (body_in_range n a && body_in_range n b)
  statement_in_range n Failing = true

-- the body of each procedure is in range, with calls of these procedures
abbrev pub program_in_range : List Procedure → Bool
program_in_range ps = list_all (λ (q : Procedure). body_in_range (length ps) q.body) ps

-- what is left of each running body is in range
abbrev pub frames_in_range : ℕ → List Frame → Bool
frames_in_range n fs = list_all (λ (f : Frame). body_in_range n f.rest) fs

-- the program is in range, and so is what is left of the running bodies, whose calls are of this program
pub record IsOfProgram (ps : List Procedure) (s : State) : Type 0 where
  pub program : IsTrue (program_in_range ps)
  pub running : IsTrue (frames_in_range (length ps) s.frames)
