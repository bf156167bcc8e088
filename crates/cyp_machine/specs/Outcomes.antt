-- How a run with the least allocation comes out.
use Rattle.std.specs.Prelude.{IsTrue, List, Some, false, suc, ℕ, ◌<◌, ◌≡◌, ◌≤◌}
use Rattle.cyp_machine.specs.Faults.{fault}
use Rattle.cyp_machine.specs.Runs.{RunBy}
use Rattle.cyp_machine.specs.States.{State, has_ended}
use Rattle.cyp_machine.specs.Steps.{least_pick}
use Rattle.cyp_machine.specs.declared.outcome.Outcome.{Outcome}
use Rattle.cyp_machine.specs.declared.outcome.Outcome.TheVariants.{Ended, Faulted, Spent}
use Rattle.cyp_prog.specs.Programs.{Procedure}

-- from the state, with this fuel: it has ended after n steps, or the step of number n faults, or the fuel is spent
abbrev pub IsOutcome : List Procedure → State → ℕ → Outcome → Type 0
IsOutcome ps s fuel (Ended h n) = (n ≤ fuel) × (t : State) × RunBy least_pick ps n s t × IsTrue (has_ended t) × (h ≡ t.store)
IsOutcome ps s fuel (Faulted c n) = (m : ℕ) × (n ≡ suc m) × (m < fuel) × (t : State) × RunBy least_pick ps m s t × (fault t ≡ Some c)
IsOutcome ps s fuel Spent = (t : State) × RunBy least_pick ps fuel s t × (has_ended t ≡ false)
