-- The commands as values of the program.
use Rattle.cyp_words.specs.Words.{Command, Gen, RunOn, Synth}
use Rattle.cyp_words.specs.declared.command.Command.{Command as CommandValue}
use Rattle.cyp_words.specs.declared.command.Command.TheVariants as values

-- a search has at most 500,000 nodes
abbrev pub command_value : Command → CommandValue
command_value (Synth s) = values.Synth (record { budget = s.budget; «unfold» = s.unfoldings; workers = s.workers; nodes = 500000 }) (record { stats = s.stats })
command_value (RunOn n) = values.RunOn n
command_value (Gen n) = values.Gen n
