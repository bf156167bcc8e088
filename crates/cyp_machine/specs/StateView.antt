-- The state of a run that a state of the machine stands for.
use Rattle.std.specs.Prelude.{map, ◌∷◌}
use Rattle.cyp_machine.specs.FrameView.{frame_of}
use Rattle.cyp_machine.specs.States as states
use Rattle.cyp_machine.specs.declared.state.State.{State}

-- its heap, and the running body above its callers
abbrev pub state_of : State → states.State
state_of s = record { store = s.heap; frames = frame_of s.frame ∷ map frame_of s.callers.items }
