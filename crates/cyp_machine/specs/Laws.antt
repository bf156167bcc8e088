-- Laws of runs.
use Rattle.std.specs.Prelude.{IsSome, IsTrue, List, None, false, ℕ, ℤ, ◌≡◌, ◌⊎◌}
use Rattle.cyp_heap.specs.Stores.{Store}
use Rattle.cyp_machine.specs.Closed.{IsClosed}
use Rattle.cyp_machine.specs.Faults.{fault}
use Rattle.cyp_machine.specs.Runs.{Run}
use Rattle.cyp_machine.specs.States.{State, has_ended, start}
use Rattle.cyp_machine.specs.Steps.{Step, StepBy, least_pick}
use Rattle.cyp_prog.specs.Programs.{Procedure}

-- a state of a run of a closed program that has neither ended nor a fault has a next step, also with the least allocation
abbrev pub RunGoesOn : Type 0
RunGoesOn = (ps : List Procedure) (p : ℕ) (args : List ℤ) (h : Store) (n : ℕ) (s : State)
    → IsClosed ps → Run ps n (start ps p args h) s → has_ended s ≡ false → fault s ≡ None
    → ((t : State) × Step ps s t) × ((t : State) × StepBy least_pick ps s t)

-- a step with the least allocation is a step
abbrev pub LeastIsAStep : Type 0
LeastIsAStep = (ps : List Procedure) (s t : State) → StepBy least_pick ps s t → Step ps s t

-- with the least allocation a state has one next step at most
abbrev pub LeastIsOne : Type 0
LeastIsOne = (ps : List Procedure) (s t u : State) → StepBy least_pick ps s t → StepBy least_pick ps s u → t ≡ u

-- a state that has ended or has a fault has no next step
abbrev pub HaltedHasNoStep : Type 0
HaltedHasNoStep = (ps : List Procedure) (s t : State) → IsTrue (has_ended s) ⊎ IsSome (fault s) → Step ps s t → ⊥
