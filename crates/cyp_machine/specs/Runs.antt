-- Runs of programs.
use Rattle.std.specs.Prelude.{List, suc, zero, ℕ, ◌≡◌}
use Rattle.cyp_machine.specs.States.{State}
use Rattle.cyp_machine.specs.Steps.{Picks, StepBy, any_pick}
use Rattle.cyp_prog.specs.Programs.{Procedure}

-- a run of so many steps from the first state to the last, where allocations take what may be picked
abbrev pub RunBy : Picks → List Procedure → ℕ → State → State → Type 0
RunBy picks ps zero s t = s ≡ t
RunBy picks ps (suc n) s t = (u : State) × StepBy picks ps s u × RunBy picks ps n u t

-- a run: an allocation takes any free base and any contents
abbrev pub Run : List Procedure → ℕ → State → State → Type 0
Run ps n s t = RunBy any_pick ps n s t
