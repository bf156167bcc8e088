use Rattle.std.proofs.Common.{ap, get_or, map, ◌∙◌, ◌∷◌}
use Rattle.cyp_machine.proofs.Called.{called}
use Rattle.cyp_machine.proofs.StepParts.{steps}
use Rattle.cyp_machine.specs.FrameView.{frame_of}
use Rattle.cyp_machine.specs.Rests.{block}
use Rattle.cyp_machine.specs.Values.{expr_value, params_from}
use Rattle.cyp_prog.specs.Programs.{Invoking, plain_proc, plain_program}
use Rattle.cyp_machine.proofs.state.State.invoke.Goals as goal

pub returns-clause-ok : goal.returns-clause-ok
returns-clause-ok c =
    let there = called c.args.program.now.procs c.procs.result.now c.args.place c.index-procs-place.result c.procs.ensures.procs c.requires.there in
    steps (Invoking c.args.place c.args.args.now) c.args.self.now.heap (frame_of c.args.self.now.frame) (map frame_of c.args.self.now.callers.items) c.requires.at
    (plain_program c.args.program.now) _ (
      plain_proc (get_or c.procs.result.now c.args.place c.index-procs-place.result),
      there,
      λ i. record {
        store = c.args.self.now.heap;
        frames =
            (ap frame_of c.replace-caller.ensures.after ∙ c.in_ok-called.ensures ∙ (λ j. record {
              values = params_from 1 (map (expr_value c.args.self.now.frame.values.items) c.args.args.now);
              rest = block (c.as_slice-body.ensures j);
            })) i
            ∷ (ap (map frame_of) c.push_front_reserved.ensures.items
            ∙ (λ j. (ap frame_of c.replace-caller.ensures.value ∙ c.advance.ensures) j ∷ map frame_of (c.in_ok-reserve.ensures.items j))) i;
      },
    )
