-- Programs that call no procedure that isn't there.
use Rattle.std.specs.Prelude.{◌&&◌, Bool, IsTrue, List, length, nat_lt, true, ℕ}
use Rattle.std.specs.List.{list_all}
use Rattle.cyp_prog.specs.Programs.{Body, Choosing, End, Failing, Giving, Invoking, Loading, Procedure, Statement, Storing, Taking, Then}

abbrev mutual
  -- each call in the body names one of this many procedures
  pub calls_below : ℕ → Body → Bool
  calls_below n End = true
  calls_below n (Then s b) = statement_calls_below n s && calls_below n b

  pub statement_calls_below : ℕ → Statement → Bool
  statement_calls_below n (Loading v e) = true
  statement_calls_below n (Storing a e) = true
  statement_calls_below n (Taking v k) = true
  statement_calls_below n (Giving e) = true
  statement_calls_below n (Invoking p es) = nat_lt p n
  statement_calls_below n (Choosing c a b) = calls_below n a && calls_below n b
  statement_calls_below n Failing = true

-- each call in a procedure of the program names one of its procedures
abbrev pub IsClosed : List Procedure → Type 0
IsClosed ps = IsTrue (list_all (λ (q : Procedure). calls_below (length ps) q.body) ps)
