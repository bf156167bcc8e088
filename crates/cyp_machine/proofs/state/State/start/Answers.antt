use Rattle.std.proofs.Common.{ap, map, refl, sym, ◌∙◌, ◌∷◌}
use Rattle.cyp_machine.proofs.Called.{called}
use Rattle.cyp_machine.proofs.RulesInRange.{rules_in_range}
use Rattle.cyp_machine.proofs.RunSteps.{under_way_at}
use Rattle.cyp_machine.proofs.UnderWay.{first_under_way}
use Rattle.cyp_machine.specs.FrameView.{frame_of}
use Rattle.cyp_machine.specs.Rests.{block}
use Rattle.cyp_machine.specs.States.{entry_body, start as first_state}
use Rattle.cyp_prog.specs.Programs.{plain_program}
use Rattle.cyp_machine.proofs.state.State.start.Goals as goal

pub returns-clause-state : goal.returns-clause-state
returns-clause-state c =
    let there = called c.args.program.now.procs c.procs.result.now c.args.entry c.index-procs-entry.result c.procs.ensures.procs c.requires.entry in
    λ i. record {
      store = c.new.ensures i;
      frames =
          (c.new-2.ensures ∙ (λ j. record { values = c.in_ok-values.ensures j; rest = (ap block c.as_slice-body.ensures ∙ sym (ap entry_body there)) j })) i
          ∷ map frame_of (c.new-3.ensures.items i);
    }

pub returns-clause-under_way : goal.returns-clause-under_way
returns-clause-under_way c =
    under_way_at (plain_program c.args.program.now) (first_state (plain_program c.args.program.now) c.args.entry c.args.args.now c.args.store) _ 0
    (returns-clause-state c) refl
    (first_under_way (plain_program c.args.program.now) c.args.entry c.args.args.now c.args.store (rules_in_range (plain_program c.args.program.now) c.procs.ensures.keeps) c.requires.numbers)
