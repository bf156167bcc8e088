-- Laws of the reading of texts.
use Rattle.std.specs.Prelude.{Err, List, Ok, Result, ℕ, ◌≡◌}
use Rattle.cyp_lex.specs.declared.fault.Fault.{Fault}
use Rattle.cyp_formed.specs.Reading.{IsReading}
use Rattle.cyp_names.specs.Specifications.{Specification}

-- a text has at most one reading
abbrev pub OneReading : Type 0
OneReading = (bytes : List ℕ) (r s : Result Specification Fault) → IsReading bytes r → IsReading bytes s → r ≡ s

-- no text is both read and refused
abbrev pub ReadNotRefused : Type 0
ReadNotRefused = (bytes : List ℕ) (s : Specification) (f : Fault) → IsReading bytes (Ok s) → IsReading bytes (Err f) → ⊥

-- a text has a reading
abbrev pub SomeReading : Type 0
SomeReading = (bytes : List ℕ) → (r : Result Specification Fault) × IsReading bytes r
