-- What reading a specification answers.
use Rattle.std.specs.Prelude.{Err, List, Ok, Result, ℕ}
use Rattle.cyp_lex.specs.Lexemes.{Lexeme}
use Rattle.cyp_lex.specs.declared.fault.Fault.{Fault}
use Rattle.cyp_term.specs.declared.fail.Fail.{Fail}
use Rattle.cyp_term.specs.declared.fail.Fail.TheVariants.{Named, NoMemory}
use Rattle.cyp_formed.specs.Reading.{IsReadFrom, IsReading}
use Rattle.cyp_names.specs.Specifications.{Specification}

-- what holds of the specification or the fault, unless memory ran out
abbrev pub Unless : (Result Specification Fault → Type 0) → Result Specification (Fail Fault) → Type 0
Unless P (Ok s) = P (Ok s)
Unless P (Err (Named f)) = P (Err f)
Unless P (Err NoMemory) = Unit {0}

-- what the lexemes of a text of so many bytes say
abbrev pub IsSaid : ℕ → List Lexeme → Result Specification (Fail Fault) → Type 0
IsSaid size ls r = Unless (IsReadFrom size ls) r

-- the specification or the one fault of the text
abbrev pub IsReadSpec : List ℕ → Result Specification (Fail Fault) → Type 0
IsReadSpec bytes r = Unless (IsReading bytes) r
