-- The number of workers is no part of the output.
use Rattle.std.specs.Prelude.{List, Some, ◌≡◌, ℕ}
use Rattle.cyp_top.specs.Lines.{Output}
use Rattle.cyp_top.specs.WholeOutput.{IsWholeOutput}
use Rattle.cyp_words.specs.Words.{Search, Synth, command_of}

-- the search by so many workers
abbrev pub with_workers : ℕ → Search → Search
with_workers n s = record s { workers = n }

-- law: words that differ in the number of workers alone have the same output
abbrev pub WorkersChangeNothing : Type 0
WorkersChangeNothing = (v w : List (List ℕ)) (s : Search) (n : ℕ) → command_of v ≡ Some (Synth s) → command_of w ≡ Some (Synth (with_workers n s))
    → (bytes : List ℕ) (o : Output) → IsWholeOutput v bytes o → IsWholeOutput w bytes o
