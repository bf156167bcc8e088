-- The states of a run: the heap, and the bodies that are running.
use Rattle.std.specs.Prelude.{[], Bool, List, None, Option, Some, false, slice_get, true, ℕ, ℤ, ◌∷◌}
use Rattle.cyp_heap.specs.Stores.{Store}
use Rattle.cyp_machine.specs.Values.{Values, params_from}
use Rattle.cyp_prog.specs.Programs.{Body, End, Procedure, Then}

-- a body that is running: the values of its variables, and what is left of it
pub record Frame : Type 0 where
  pub values : Values
  pub rest : Body

-- the heap and the stack of the bodies that are running, a called body before its caller
pub record State : Type 0 where
  pub store : Store
  pub frames : List Frame

-- the body of a procedure, and the empty body where there is no procedure
abbrev pub entry_body : Option Procedure → Body
entry_body None = End
entry_body (Some q) = q.body

-- the state in which the procedure at this place begins, with these arguments and this heap
abbrev pub start : List Procedure → ℕ → List ℤ → Store → State
start ps p args h = record { store = h; frames = record { values = params_from 1 args; rest = entry_body (slice_get ps p) } ∷ [] }

-- nothing is left of the body
abbrev pub is_end : Body → Bool
is_end End = true
is_end (Then s b) = false

-- one body is running, and nothing is left of it
abbrev pub frames_ended : List Frame → Bool
frames_ended (f ∷ []) = is_end f.rest
frames_ended _ = false

-- the first body is at its end
abbrev pub has_ended : State → Bool
has_ended s = frames_ended s.frames
