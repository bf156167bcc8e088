-- Laws of runs with the least allocation.
use Rattle.std.specs.Prelude.{IsSome, IsTrue, List, ℕ, ◌≡◌, ◌≤◌, ◌⊎◌}
use Rattle.cyp_machine.specs.Faults.{fault}
use Rattle.cyp_machine.specs.Runs.{Run, RunBy}
use Rattle.cyp_machine.specs.States.{State, has_ended}
use Rattle.cyp_machine.specs.Steps.{least_pick}
use Rattle.cyp_prog.specs.Programs.{Procedure}

-- two of one length from one state end in one state
abbrev pub LeastRunsMeet : Type 0
LeastRunsMeet = (ps : List Procedure) (n : ℕ) (s t u : State) → RunBy least_pick ps n s t → RunBy least_pick ps n s u → t ≡ u

-- none is longer than one to a state that has ended or has a fault
abbrev pub HaltedIsLongest : Type 0
HaltedIsLongest = (ps : List Procedure) (m n : ℕ) (s t u : State) → IsTrue (has_ended t) ⊎ IsSome (fault t)
    → RunBy least_pick ps m s t → RunBy least_pick ps n s u → n ≤ m

-- each is a run
abbrev pub LeastRunIsARun : Type 0
LeastRunIsARun = (ps : List Procedure) (n : ℕ) (s t : State) → RunBy least_pick ps n s t → Run ps n s t
