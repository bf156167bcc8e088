-- The running body that a frame of the machine stands for.
use Rattle.cyp_machine.specs.Rests.{block, blocks}
use Rattle.cyp_machine.specs.States as states
use Rattle.cyp_machine.specs.Steps.{followed_by}
use Rattle.cyp_machine.specs.declared.frame.Frame.{Frame}

-- its variables, and its lists of statements one after another
abbrev pub frame_of : Frame → states.Frame
frame_of f = record { values = f.values.items; rest = followed_by (block f.now.now) (blocks f.later.items) }
