-- Laws of programs as texts.
use Rattle.std.specs.Prelude.{◌≡◌, Err, List, Result, ℕ}
use Rattle.cyp_lex.specs.Lexemes.{Lexeme}
use Rattle.cyp_lex.specs.Spelling.{Match}
use Rattle.cyp_prog.specs.Faults.{ProgFault}
use Rattle.cyp_prog.specs.Grammar.{program_spelling}
use Rattle.cyp_prog.specs.Programs.{Procedure}
use Rattle.cyp_prog.specs.Reading.{IsProgramReading, IsSpelled}
use Rattle.cyp_prog.specs.Trees.{ProgramTree}

-- lexemes spell one program's tree at most
abbrev pub OneTree : Type 0
OneTree = (s t : ProgramTree) (ls : List Lexeme) → Match (program_spelling s) ls → Match (program_spelling t) ls → s ≡ t

-- each text has a reading: it spells a program, or it is refused for a fault
abbrev pub SomeReading : Type 0
SomeReading = (bytes : List ℕ) → (result : Result (List Procedure) ProgFault) × IsProgramReading bytes result

-- a text has one reading at most: one program, or one fault
abbrev pub OneReading : Type 0
OneReading = (bytes : List ℕ) (r s : Result (List Procedure) ProgFault) → IsProgramReading bytes r → IsProgramReading bytes s → r ≡ s

-- no text that spells a program is refused
abbrev pub ReadIsNotRefused : Type 0
ReadIsNotRefused = (bytes : List ℕ) (program : List Procedure) (f : ProgFault) → IsSpelled bytes program → IsProgramReading bytes (Err f) → ⊥
