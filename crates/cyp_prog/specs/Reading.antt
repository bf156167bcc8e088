-- Which programs texts spell, and why texts are refused.
use Rattle.std.specs.Prelude.{List, Result, Ok, ℕ}
use Rattle.cyp_prog.specs.Bindings.{program_faults}
use Rattle.cyp_prog.specs.Faults.{ProgFault}
use Rattle.cyp_prog.specs.Grammar.{program_spelling}
use Rattle.cyp_prog.specs.Passes.{IsReading, Syntax}
use Rattle.cyp_prog.specs.Programs.{Procedure}
use Rattle.cyp_prog.specs.TreePrograms.{program_of_tree}
use Rattle.cyp_prog.specs.Trees.{ProgramTree}

-- programs as texts
abbrev pub program_syntax : Syntax ProgramTree (List Procedure)
program_syntax = record { spelling = program_spelling; faults = program_faults; said = program_of_tree }

-- the program that the text spells, or the fault for which it is refused
abbrev pub IsProgramReading : List ℕ → Result (List Procedure) ProgFault → Type 0
IsProgramReading bytes result = IsReading program_syntax bytes result

-- the bytes spell the program
abbrev pub IsSpelled : List ℕ → List Procedure → Type 0
IsSpelled bytes program = IsProgramReading bytes (Ok program)
