-- What `clap` found, in the words of the options.
use Rattle.std.specs.Prelude.{◌≡◌, ⊤, Err, Ok, Result, ◌⊎◌, List, None, Option, Some, [], codes, false, option_map, true, ℕ}
use Rattle.clap.specs.Matches.{first_value, found_of, one_text}
use Rattle.clap.specs.declared.parser.matches.ArgMatches.{ArgMatches}
use Rattle.cyp_term.specs.declared.fail.Fail.{Fail}
use Rattle.cyp_term.specs.declared.fail.Fail.TheVariants.{Named, NoMemory}
use Rattle.cyp_words.specs.declared.command.Usage.{Usage}
use Rattle.cyp_words.specs.Options.{Text, Written, choice_name, choice_number, is_flag, written}
use Rattle.cyp_words.specs.Words.{checked, each_new, written_as}
use Rattle.cyp_words.specs.declared.choice.Choice.{Choice}
use Rattle.cyp_words.specs.declared.choice.Choice.TheVariants.{Stats}

-- a flag reads as `true` where it is written, and else as `false` or not at all
abbrev pub ReadsFlag : Option Written → Option Text → Type 0
ReadsFlag (Some o) t = t ≡ Some (codes "true")
ReadsFlag None t = (t ≡ None) ⊎ (t ≡ Some (codes "false"))

-- the words write these options, each once, and what was found are their texts
pub record Finds (cs : List Choice) (ws : List Text) (m : ArgMatches) : Type 0 where
  pub os : List Written
  pub all : written cs None ws ≡ Some os
  pub once : each_new [] os ≡ true
  pub texts : (c : Choice) → is_flag c ≡ false → first_value (found_of m) (choice_name c) ≡ option_map (λ o. o.text) (written_as c os)
  pub flag : ReadsFlag (written_as Stats os) (one_text (found_of m) (codes "stats"))

-- the options are found that the words write, or the words are refused; want of memory is free
abbrev pub Parses : List Choice → List Text → Result ArgMatches (Fail Usage) → Type 0
Parses cs ws (Ok m) = Finds cs ws m
Parses cs ws (Err (Named u)) = checked (written cs None ws) ≡ None
Parses cs ws (Err NoMemory) = ⊤

-- the number of an option by the text that was found of it, which must be one in the option's bounds
abbrev pub number_said : Choice → Option Text → Option (Option ℕ)
number_said c None = Some None
number_said c (Some text) = option_map (λ n. Some n) (choice_number c text)
