use Rattle.std.proofs.Common.{subst, sym, ℕ, ◌+◌}
use Rattle.cyp_machine.proofs.UnderWay.{bounded_after, stepped_under_way}
use Rattle.cyp_machine.specs.Machine.{IsStepped, IsUnderWay}
use Rattle.cyp_machine.specs.StateView.{state_of}
use Rattle.cyp_machine.specs.declared.stepped.Stepped.{Stepped}
use Rattle.cyp_machine.specs.declared.stepped.Stepped.TheVariants.{Moved}
use Rattle.cyp_prog.specs.Programs.{plain_program}
use Rattle.cyp_machine.proofs.state.State.step.Goals as goal

pub advance-requires-clause-bounded : goal.advance-requires-clause-bounded
advance-requires-clause-bounded c = bounded_after c.args.self.now.steps (state_of c.args.self.now) c.requires.few c.requires.under_way.bounded

pub returns-in-Moved-clause-under_way : goal.returns-in-Moved-clause-under_way
returns-in-Moved-clause-under_way c =
    subst (λ (k : ℕ). IsUnderWay (plain_program c.args.program.now) (k + 1) (state_of c.advance.new.self)) (sym c.advance.ensures.steps)
    (stepped_under_way (plain_program c.args.program.now) c.args.self.now.steps Moved (state_of c.args.self.now) (state_of c.advance.new.self) c.requires.under_way
    (subst (λ (r : Stepped). IsStepped r (plain_program c.args.program.now) (state_of c.args.self.now) (state_of c.advance.new.self)) c.in-Moved.is c.in_ok-stepped.ensures.ok))
