use Rattle.std.proofs.Common.{ap, arith, subst, sym, ℕ, ◌∙◌, ◌≡◌}
use Rattle.cyp_machine.proofs.RunSteps.{counted, ended_at, faulted_at, run_more}
use Rattle.cyp_machine.specs.Runs.{RunBy}
use Rattle.cyp_machine.specs.StateView.{state_of}
use Rattle.cyp_machine.specs.States.{State, start}
use Rattle.cyp_machine.specs.Steps.{least_pick}
use Rattle.cyp_prog.specs.Programs.{plain_program}
use Rattle.cyp_machine.proofs.run.run_program.Goals as goal

pub loop-made-init : goal.loop-made-init
loop-made-init c = record {
  run = sym c.in_ok-state.ensures.state;
  under_way = c.in_ok-state.ensures.under_way;
  steps = c.in_ok-state.ensures.steps;
}

pub loop-made-preserved : goal.loop-made-preserved
loop-made-preserved c = record {
  run =
      run_more (plain_program c.args.program.now) (state_of c.loop-made.state) (state_of c.step.new.self) c.in_ok-step.field-0 c.in_ok-step.ensures.ok
      c.loop-made.made (start (plain_program c.args.program.now) c.args.entry c.args.args.now c.args.store) c.in-Moved.is c.loop-made.invariant.run;
  under_way = c.step.ensures.under_way;
  steps =
      counted c.loop-made.state.steps c.loop-made.made c.step.new.self.steps c.in_ok-step.field-0 c.in-Moved.is c.in_ok-step.ensures.count
      c.loop-made.invariant.steps;
}

pub returns-in-Ended : goal.returns-in-Ended
returns-in-Ended c =
    let e = ended_at (plain_program c.args.program.now) (state_of c.loop-made.state) (state_of c.step.new.self) c.in_ok-step.field-0 c.in_ok-step.ensures.ok c.in-Ended.is in
    (omega arith, state_of c.loop-made.state, c.loop-made.invariant.run, e.0, c.into_store.ensures ∙ ap (λ (s : State). s.store) e.1)

pub returns-in-Faulted : goal.returns-in-Faulted
returns-in-Faulted c =
    let e =
    faulted_at (plain_program c.args.program.now) (state_of c.loop-made.state) (state_of c.step.new.self) c.in_ok-step.field-0 c.in_ok-step.ensures.ok
    c.in-Faulted.cause c.in-Faulted.is in
    (c.loop-made.made, omega arith, omega arith, state_of c.loop-made.state, c.loop-made.invariant.run, e.0)

pub returns-then-has_ended : goal.returns-then-has_ended
returns-then-has_ended c =
    let all : c.loop-made.made ≡ c.args.fuel = omega arith in (
      omega arith,
      state_of c.loop-made.state,
      subst (λ (k : ℕ). RunBy least_pick (plain_program c.args.program.now) k (start (plain_program c.args.program.now) c.args.entry c.args.args.now c.args.store) (state_of c.loop-made.state))
          all c.loop-made.invariant.run,
      sym c.has_ended.ensures ∙ c.if-has_ended.true,
      c.into_store-then-has_ended.ensures,
    )

pub returns : goal.returns
returns c =
    let all : c.loop-made.made ≡ c.args.fuel = omega arith in (
      state_of c.loop-made.state,
      subst (λ (k : ℕ). RunBy least_pick (plain_program c.args.program.now) k (start (plain_program c.args.program.now) c.args.entry c.args.args.now c.args.store) (state_of c.loop-made.state))
          all c.loop-made.invariant.run,
      sym c.has_ended.ensures ∙ c.if-has_ended.false,
    )
