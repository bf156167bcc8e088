-- Laws of programs that are read: the called procedures are there.
use Rattle.std.specs.Prelude.{List, Ok, Some, length, slice_get, ℕ, ◌≡◌}
use Rattle.cyp_machine.specs.Closed.{IsClosed}
use Rattle.cyp_machine.specs.RunInput.{IsInputReading, RunInput}
use Rattle.cyp_prog.specs.Programs.{Procedure}
use Rattle.cyp_prog.specs.Reading.{IsSpelled}

-- a program that a text spells is closed
abbrev pub SpelledIsClosed : Type 0
SpelledIsClosed = (bytes : List ℕ) (ps : List Procedure) → IsSpelled bytes ps → IsClosed ps

-- the program of an input that is read is closed
abbrev pub InputIsClosed : Type 0
InputIsClosed = (bytes : List ℕ) (i : RunInput) → IsInputReading bytes (Ok i) → IsClosed i.program

-- the called procedure of an input that is read is one of its program, and has as many parameters as there are arguments
abbrev pub EntryIsThere : Type 0
EntryIsThere = (bytes : List ℕ) (i : RunInput) → IsInputReading bytes (Ok i)
    → (q : Procedure) × (slice_get i.program i.entry ≡ Some q) × (q.params ≡ length i.args)
