-- Which command the words of the command line are.
use Rattle.std.specs.Prelude.{Bool, List, None, Option, Some, [], codes, cond, find, is_some, not, option_and_then, option_map, true, unwrap_or, ◌&&◌, ◌++◌, ◌||◌, ◌∷◌, ℕ}
use Rattle.std.specs.List.{list_all, list_any}
use Rattle.std.specs.Str.{bytes_eq}
use Rattle.cyp_words.specs.Options.{Text, Written, choice_eq, choice_number, is_flag, number_within, written}
use Rattle.cyp_words.specs.declared.choice.Choice.{Choice}
use Rattle.cyp_words.specs.declared.choice.Choice.TheVariants.{Budget, Fuel, Stats, Unfold, Workers}
use Rattle.cyp_words.specs.declared.options.Options.{Options}

-- how a specification is searched: expansions, unfoldings, workers, and whether the report is printed
pub record Search : Type 0 where
  pub budget : ℕ
  pub unfoldings : ℕ
  pub workers : ℕ
  pub stats : Bool

-- the commands: a search for a text, a run of so many steps at most, and a search for the chain of so many cells
pub data Command : Type 0 where
  Synth : Search → Command
  RunOn : ℕ → Command
  Gen : ℕ → Command

-- the two are one option, whatever their numbers
abbrev pub same_option : Written → Written → Bool
same_option o p = choice_eq o.choice p.choice

-- no option is written twice, nor again where it stands before
abbrev pub each_new : List Written → List Written → Bool
each_new before [] = true
each_new before (o ∷ os) = not (list_any (same_option o) before) && each_new (before ++ o ∷ []) os

-- the option is a flag, or its number is in its bounds
abbrev pub is_allowed : Written → Bool
is_allowed o = is_flag o.choice || is_some (choice_number o.choice o.text)

-- the options that the words write, where each is allowed and stands once
abbrev pub checked : Option (List Written) → Option (List Written)
checked None = None
checked (Some os) = cond (each_new [] os && list_all is_allowed os) (Some os) None

-- the option as it is written, if it is
abbrev pub written_as : Choice → List Written → Option Written
written_as c os = find (λ o. choice_eq c o.choice) os

-- the option's number, if it is written
abbrev pub number_of : Choice → List Written → Option ℕ
number_of c os = option_and_then (λ o. choice_number o.choice o.text) (written_as c os)

-- what the options say
abbrev pub options_of : List Written → Options
options_of os = record {
  budget = number_of Budget os;
  unfoldings = number_of Unfold os;
  workers = number_of Workers os;
  fuel = number_of Fuel os;
  stats = is_some (written_as Stats os);
}

-- what the words say, if they are some of these options, each once
abbrev pub options_in : List Choice → List Text → Option Options
options_in cs ws = option_map options_of (checked (written cs None ws))

-- without options: 20,000 expansions, 2 unfoldings, one worker, no report
abbrev pub synth_by : Options → Command
synth_by o = Synth (record {
  budget = unwrap_or o.budget 20000;
  unfoldings = unwrap_or o.unfoldings 2;
  workers = unwrap_or o.workers 1;
  stats = o.stats;
})

-- without an option at most 100,000 steps
abbrev pub run_by : Options → Command
run_by o = RunOn (unwrap_or o.fuel 100000)

-- the one word behind `gen` is a number from 1 to 16
abbrev pub gen_by : List Text → Option Command
gen_by [] = None
gen_by (w ∷ []) = option_map Gen (number_within 1 16 w)
gen_by (w ∷ v ∷ ws) = None

-- the command that the first word begins, with the others as its options; a search has these options
abbrev pub command_by : List Choice → Text → List Text → Option Command
command_by cs w ws =
    cond (bytes_eq w (codes "synth")) (option_map synth_by (options_in cs ws))
    (cond (bytes_eq w (codes "run")) (option_map run_by (options_in (Fuel ∷ []) ws))
    (cond (bytes_eq w (codes "gen")) (gen_by ws) None))

-- the command that the words are where a search has these options
abbrev pub command_with : List Choice → List Text → Option Command
command_with cs [] = None
command_with cs (w ∷ ws) = command_by cs w ws

-- the command that the words are, or none where they are refused. The program's name isn't among them
abbrev pub command_of : List Text → Option Command
command_of = command_with (Budget ∷ Unfold ∷ Workers ∷ Stats ∷ [])

-- the same as long as each search has one worker: `--workers` isn't known
abbrev pub one_worker_command_of : List Text → Option Command
one_worker_command_of = command_with (Budget ∷ Unfold ∷ Stats ∷ [])
