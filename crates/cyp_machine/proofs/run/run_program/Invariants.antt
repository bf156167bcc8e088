use Rattle.std.proofs.Common.{◌≡◌}
use Rattle.cyp_machine.specs.Machine.{IsUnderWay}
use Rattle.cyp_machine.specs.Runs.{RunBy}
use Rattle.cyp_machine.specs.StateView.{state_of}
use Rattle.cyp_machine.specs.States.{start}
use Rattle.cyp_machine.specs.Steps.{least_pick}
use Rattle.cyp_prog.specs.Programs.{plain_program}
use Rattle.cyp_machine.proofs.run.run_program.Given as goal

abbrev pub invariant-loop-made : goal.invariant-loop-made
invariant-loop-made l = record {
  run : RunBy least_pick (plain_program l.program) l.made (start (plain_program l.program) l.entry l.args l.fn.store) (state_of l.state);
  under_way : IsUnderWay (plain_program l.program) l.state.steps (state_of l.state);
  steps : l.state.steps ≡ l.made;
}
