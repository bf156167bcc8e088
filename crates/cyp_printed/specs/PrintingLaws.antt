-- A law of printed specifications.
use Rattle.std.specs.Prelude.{List, Ok, length, ℕ, ◌≤◌}
use Rattle.cyp_writing.specs.Printing.{specification_text}
use Rattle.cyp_formed.specs.Reading.{IsReading}
use Rattle.cyp_names.specs.Specifications.{Specification}

-- a specification that was read is what its printed text is read as, where that text isn't too long
abbrev pub PrintedIsRead : Type 0
PrintedIsRead = (bytes : List ℕ) (s : Specification) → IsReading bytes (Ok s) → length (specification_text s) ≤ 65536 → IsReading (specification_text s) (Ok s)
