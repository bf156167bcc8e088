-- What the program is to write and answer for words and bytes, once all of it is built.
use Rattle.std.specs.Prelude.{List, None, Option, Some, ◌≡◌, ℕ}
use Rattle.cyp_moves.specs.Moves.{is_any}
use Rattle.cyp_top.specs.Chain.{gen_output}
use Rattle.cyp_top.specs.Lines.{Output, words_refused}
use Rattle.cyp_top.specs.RunOutput.{IsInputOutput}
use Rattle.cyp_top.specs.Synthesis.{IsSpecOutput}
use Rattle.cyp_words.specs.Words.{Command, Gen, RunOn, Synth, command_of}

-- the output of a command for the bytes of the source; `gen` and words that are refused don't look at them
abbrev pub IsCommandOutput : Option Command → List ℕ → Output → Type 0
IsCommandOutput None bytes o = o ≡ words_refused
IsCommandOutput (Some (Synth s)) bytes o = IsSpecOutput is_any s bytes o
IsCommandOutput (Some (RunOn fuel)) bytes o = IsInputOutput fuel bytes o
IsCommandOutput (Some (Gen n)) bytes o = o ≡ gen_output n

-- the output for these words and bytes. The number of workers is no part of it
abbrev pub IsWholeOutput : List (List ℕ) → List ℕ → Output → Type 0
IsWholeOutput words bytes o = IsCommandOutput (command_of words) bytes o

-- law: there is one output for words and bytes at most
abbrev pub OneWholeOutput : Type 0
OneWholeOutput = (words : List (List ℕ)) (bytes : List ℕ) (a b : Output) → IsWholeOutput words bytes a → IsWholeOutput words bytes b → a ≡ b

-- law: there is an output for words and bytes
abbrev pub SomeWholeOutput : Type 0
SomeWholeOutput = (words : List (List ℕ)) (bytes : List ℕ) → (o : Output) × IsWholeOutput words bytes o
