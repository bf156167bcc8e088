-- What the program writes and answers for words and bytes.
use Rattle.std.specs.Prelude.{◌≡◌, Bool, List, None, Option, Some, false, true, ℕ}
use Rattle.cyp_moves.specs.Moves.{is_built}
use Rattle.cyp_top.specs.Lines.{Output, words_refused}
use Rattle.cyp_top.specs.Synthesis.{IsSpecOutput}
use Rattle.cyp_words.specs.Words.{Command, Gen, RunOn, Synth, one_worker_command_of}

-- the words ask for a search for the specification of the source, and no other words are taken yet
abbrev pub is_search : Option Command → Bool
is_search (Some (Synth s)) = true
is_search _ = false

-- what the bytes give where the words ask for a search, with the kinds of row that are built, else the refusal of the words
abbrev pub IsOutputBy : Option Command → List ℕ → Output → Type 0
IsOutputBy None bytes o = o ≡ words_refused
IsOutputBy (Some (Synth s)) bytes o = IsSpecOutput is_built s bytes o
IsOutputBy (Some (RunOn fuel)) bytes o = o ≡ words_refused
IsOutputBy (Some (Gen n)) bytes o = o ≡ words_refused

-- the output for these words and these bytes of the source
abbrev pub IsOutput : List (List ℕ) → List ℕ → Output → Type 0
IsOutput words bytes o = IsOutputBy (one_worker_command_of words) bytes o
