-- Laws of the input of a run.
use Rattle.std.specs.Prelude.{◌≡◌, List, Result, ℕ}
use Rattle.cyp_lex.specs.Lexemes.{Lexeme}
use Rattle.cyp_lex.specs.Spelling.{Match}
use Rattle.cyp_machine.specs.RunInput.{InputTree, IsInputReading, RunInput, input_spelling}
use Rattle.cyp_prog.specs.declared.fault.ProgFault.{ProgFault}

-- lexemes spell one input's tree at most
abbrev pub OneInputTree : Type 0
OneInputTree = (s t : InputTree) (ls : List Lexeme) → Match (input_spelling s) ls → Match (input_spelling t) ls → s ≡ t

-- each text has a reading: it spells an input, or it is refused for a fault
abbrev pub SomeInputReading : Type 0
SomeInputReading = (bytes : List ℕ) → (result : Result RunInput ProgFault) × IsInputReading bytes result

-- a text has one reading at most: one input, or one fault
abbrev pub OneInputReading : Type 0
OneInputReading = (bytes : List ℕ) (r s : Result RunInput ProgFault) → IsInputReading bytes r → IsInputReading bytes s → r ≡ s
