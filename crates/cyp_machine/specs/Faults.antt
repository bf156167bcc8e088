-- When the next step of a run is a fault.
use Rattle.std.specs.Prelude.{[], Bool, List, None, Option, Some, cond, false, is_some, ℕ, ℤ, ◌∷◌}
use Rattle.std.specs.FinMap.{get}
use Rattle.cyp_heap.specs.Stores.{Store}
use Rattle.cyp_machine.specs.States.{Frame, State}
use Rattle.cyp_machine.specs.Steps.{addresses, has_all}
use Rattle.cyp_machine.specs.Values.{Values, expr_value}
use Rattle.cyp_machine.specs.declared.cause.Cause.{Cause}
use Rattle.cyp_machine.specs.declared.cause.Cause.TheVariants.{ErrorReached, FreeMissing, ReadMissing, WriteMissing}
use Rattle.cyp_prog.specs.Programs.{Body, Choosing, End, Failing, Giving, Invoking, Loading, Statement, Storing, Taking, Then}

-- the cause, unless what is needed is there
abbrev pub unless_there : Bool → Cause → Option Cause
unless_there b c = cond b None (Some c)

-- there is a block of this size, and each of its cells from the base on is there
abbrev pub is_whole : Store → ℤ → Option ℕ → Bool
is_whole h a None = false
is_whole h a (Some n) = has_all h.cells (addresses a n)

-- why the statement faults, if it does
abbrev pub statement_fault : Store → Values → Statement → Option Cause
statement_fault h vs (Loading v e) = unless_there (is_some (get h.cells (expr_value vs e))) ReadMissing
statement_fault h vs (Storing a e) = unless_there (is_some (get h.cells (expr_value vs a))) WriteMissing
statement_fault h vs (Taking v n) = None
statement_fault h vs (Giving e) = unless_there (is_whole h (expr_value vs e) (get h.blocks (expr_value vs e))) FreeMissing
statement_fault h vs (Invoking p es) = None
statement_fault h vs (Choosing c a b) = None
statement_fault h vs Failing = Some ErrorReached

-- why the first statement of the body faults, if it does
abbrev pub body_fault : Store → Values → Body → Option Cause
body_fault h vs End = None
body_fault h vs (Then s b) = statement_fault h vs s

-- why the first of the running bodies faults, if it does
abbrev pub frames_fault : Store → List Frame → Option Cause
frames_fault h [] = None
frames_fault h (f ∷ below) = body_fault h f.values f.rest

-- why the next step faults, if it does
abbrev pub fault : State → Option Cause
fault s = frames_fault s.store s.frames
