-- What a command of the code asks for.
use Rattle.std.specs.Prelude.{◌≡◌}
use Rattle.cyp_space.specs.SettingsValue.{SettingsValue}
use Rattle.cyp_words.specs.Words.{Command, Gen, RunOn, Search, Synth}
use Rattle.cyp_words.specs.declared.command.Command.{Command as CommandValue}
use Rattle.cyp_words.specs.declared.command.Command.TheVariants as values
use Rattle.cyp_words.specs.declared.command.Extras.{Extras}

-- the search with these settings, and with its report printed where that is asked for
abbrev pub search_of : SettingsValue → Extras → Search
search_of v e = record { budget = v.budget; unfoldings = v.«unfold»; workers = v.workers; stats = e.stats }

-- the command that the value is
abbrev pub asked : CommandValue → Command
asked (values.Synth v e) = Synth (search_of v e)
asked (values.RunOn n) = RunOn n
asked (values.Gen n) = Gen n

-- a search has at most 500,000 nodes
abbrev pub IsLimited : CommandValue → Type 0
IsLimited (values.Synth v e) = v.nodes ≡ 500000
IsLimited _ = Unit {0}
