-- What `run` answers: how the run of a program from its start line ends.
use Rattle.std.specs.Prelude.{Bool, Err, IsTrue, List, Ok, Result, Some, codes, decimal, false, flat_map, length, nat_le, suc, true, ◌++◌, ◌<◌, ◌≡◌, ◌≤◌, ◌⊎◌, ℕ, ℤ}
use Rattle.std.specs.FinMap.{entries}
use Rattle.cyp_heap.specs.Stores.{Store}
use Rattle.cyp_machine.specs.Faults.{fault}
use Rattle.cyp_machine.specs.RunInput.{IsInputReading, RunInput}
use Rattle.cyp_machine.specs.Runs.{RunBy}
use Rattle.cyp_machine.specs.States.{State, has_ended, start}
use Rattle.cyp_machine.specs.Steps.{least_pick}
use Rattle.cyp_machine.specs.declared.cause.Cause.{Cause}
use Rattle.cyp_machine.specs.declared.cause.Cause.TheVariants.{ErrorReached, FreeMissing, ReadMissing, WriteMissing}
use Rattle.cyp_prog.specs.ProgramText.{number_text}
use Rattle.cyp_prog.specs.declared.fault.ProgFault.{ProgFault}
use Rattle.cyp_prog.specs.declared.fault.ProgKind.{ProgKind}
use Rattle.cyp_prog.specs.declared.fault.ProgKind.TheVariants.{BadByte, DuplicateName, Expected, NumberRange, TooLarge, UnknownName, WrongArity}
use Rattle.cyp_top.specs.Lines.{Output, line, output}
use Rattle.cyp_top.specs.Reports.{refused_at}
use Rattle.cyp_top.specs.declared.status.Status.TheVariants.{NoProgram, Program, Spent}

-- ---- lines

-- a block by its base and size
abbrev pub block_line : ℤ × ℕ → List ℕ
block_line p = line (codes "[" ++ number_text p.0 ++ codes ", " ++ decimal p.1 ++ codes "]")

-- a cell by its address and content
abbrev pub cell_line : ℤ × ℤ → List ℕ
cell_line p = line (number_text p.0 ++ codes " :-> " ++ number_text p.1)

-- the blocks by base, then the cells by address
abbrev pub store_lines : Store → List ℕ
store_lines h = flat_map block_line (entries h.blocks) ++ flat_map cell_line (entries h.cells)

-- a cause by its name
abbrev pub cause_name : Cause → List ℕ
cause_name ReadMissing = codes "ReadMissing"
cause_name WriteMissing = codes "WriteMissing"
cause_name FreeMissing = codes "FreeMissing"
cause_name ErrorReached = codes "ErrorReached"

-- a kind of fault by its name
abbrev pub kind_name : ProgKind → List ℕ
kind_name BadByte = codes "BadByte"
kind_name Expected = codes "Expected"
kind_name NumberRange = codes "NumberRange"
kind_name UnknownName = codes "UnknownName"
kind_name DuplicateName = codes "DuplicateName"
kind_name WrongArity = codes "WrongArity"
kind_name TooLarge = codes "TooLarge"

-- the run has ended after so many steps
abbrev pub ended_output : ℕ → Store → Output
ended_output k h = output (line (codes "ended after " ++ decimal k ++ codes " steps") ++ store_lines h) Program

-- the run faults at the step of this number
abbrev pub faulted_output : Cause → ℕ → Output
faulted_output c k = output (line (codes "faulted: " ++ cause_name c ++ codes " at step " ++ decimal k)) NoProgram

-- the fuel is spent
abbrev pub spent_output : Output
spent_output = output (line (codes "spent")) Spent

-- ---- the run

-- the state in which the run begins
abbrev pub first_state : RunInput → State
first_state i = start i.program i.entry i.args i.store

-- the run of so many steps that takes the least free base and zeros at each allocation
abbrev pub LeastRun : RunInput → ℕ → State → Type 0
LeastRun i k t = RunBy least_pick i.program k (first_state i) t

-- the run ends within the fuel
pub record Ends (i : RunInput) (fuel : ℕ) (o : Output) : Type 0 where
  pub steps : ℕ
  pub state : State
  pub within : steps ≤ fuel
  pub run : LeastRun i steps state
  pub ended : IsTrue (has_ended state)
  pub said : o ≡ ended_output steps state.store

-- one of the steps within the fuel is a fault
pub record Faults (i : RunInput) (fuel : ℕ) (o : Output) : Type 0 where
  pub steps : ℕ
  pub state : State
  pub cause : Cause
  pub within : steps < fuel
  pub run : LeastRun i steps state
  pub faulted : fault state ≡ Some cause
  pub said : o ≡ faulted_output cause (suc steps)

-- the fuel is spent and the run hasn't ended
pub record Spends (i : RunInput) (fuel : ℕ) (o : Output) : Type 0 where
  pub state : State
  pub run : LeastRun i fuel state
  pub going : has_ended state ≡ false
  pub said : o ≡ spent_output

-- the run ends, faults or spends the fuel, and this is what is said of it
abbrev pub IsRunOutput : RunInput → ℕ → Output → Type 0
IsRunOutput i fuel o = Ends i fuel o ⊎ (Faults i fuel o ⊎ Spends i fuel o)

-- ---- the input

-- what is answered for an input, or for the one fault of its text
abbrev pub IsResultOutput : ℕ → Result RunInput ProgFault → Output → Type 0
IsResultOutput fuel (Ok i) o = IsRunOutput i fuel o
IsResultOutput fuel (Err f) o = o ≡ refused_at (kind_name f.kind) f.place

-- a text of more than 65,536 bytes is refused
abbrev pub IsRunOutputOf : Bool → ℕ → List ℕ → Output → Type 0
IsRunOutputOf false fuel bytes o = o ≡ refused_at (codes "TooLong") 65536
IsRunOutputOf true fuel bytes o = (r : Result RunInput ProgFault) × IsInputReading bytes r × IsResultOutput fuel r o

-- the output of `run` for these bytes
abbrev pub IsInputOutput : ℕ → List ℕ → Output → Type 0
IsInputOutput fuel bytes o = IsRunOutputOf (nat_le (length bytes) 65536) fuel bytes o
