use Rattle.std.proofs.Common.{map, rules, w64}
use Rattle.std.proofs.lemmas.Int.{to_z-of_z}
use Rattle.cyp_machine.proofs.StepParts.{takes}
use Rattle.cyp_machine.specs.FrameView.{frame_of}
use Rattle.cyp_machine.proofs.state.State.take.Goals as goal

pub returns-clause-ok : goal.returns-clause-ok
returns-clause-ok c =
    takes c.args.variable c.args.size c.args.self.now.heap c.free_base-base.new.self c.take.new.self (frame_of c.args.self.now.frame) (frame_of c.bind.new.self)
    (frame_of c.advance.new.self) (map frame_of c.args.self.now.callers.items) c.free_base-base.result _ c.requires.at
    (to_z-of_z w64 c.free_base-base.result (search rules)) c.free_base-base.ensures.free c.free_base-base.ensures.least c.free_base-base.ensures.same
    c.in_default.ensures.ok c.in_ok-bind.ensures.ok c.advance.ensures
