-- The machine: what a step answers, and states that a run may be in.
use Rattle.std.specs.Prelude.{IsTrue, List, Some, ℕ, ◌≡◌}
use Rattle.cyp_machine.specs.Bounds.{IsBounded, bound}
use Rattle.cyp_machine.specs.Faults.{fault}
use Rattle.cyp_machine.specs.InRange.{IsOfProgram}
use Rattle.cyp_machine.specs.States.{State, has_ended}
use Rattle.cyp_machine.specs.Steps.{StepBy, least_pick}
use Rattle.cyp_machine.specs.declared.stepped.Stepped.{Stepped}
use Rattle.cyp_machine.specs.declared.stepped.Stepped.TheVariants.{Ended, Faulted, Moved}
use Rattle.cyp_prog.specs.Programs.{Procedure}

-- what a step answers, and the state behind it: a step with the least allocation, or the state had ended, or the step faults
abbrev pub IsStepped : Stepped → List Procedure → State → State → Type 0
IsStepped Moved ps s t = StepBy least_pick ps s t
IsStepped Ended ps s t = IsTrue (has_ended s) × (t ≡ s)
IsStepped (Faulted c) ps s t = (fault s ≡ Some c) × (t ≡ s)

-- how many steps are made with this answer
abbrev pub made : Stepped → ℕ
made Moved = 1
made Ended = 0
made (Faulted c) = 0

-- the state may be one of a run of this program, so many steps after its start
pub record IsUnderWay (ps : List Procedure) (steps : ℕ) (s : State) : Type 0 where
  pub of_program : IsOfProgram ps s
  pub bounded : IsBounded (bound steps) s
