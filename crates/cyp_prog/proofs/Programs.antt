-- Laws of programs as texts.
use Rattle.std.proofs.Common.{Err, Ok}
use Rattle.cyp_lex.specs.Readers.{whole_of}
use Rattle.cyp_prog.proofs.Decided.{decided, has_reading}
use Rattle.cyp_prog.proofs.ProgramLaws.{one_program, program_is_read}
use Rattle.cyp_prog.proofs.Readings.{reading_once}
use Rattle.cyp_prog.specs.Grammar.{program_spelling}
use Rattle.cyp_prog.specs.Laws.{OneReading, OneTree, ReadIsNotRefused, SomeReading}
use Rattle.cyp_prog.specs.Programs.{Procedure}
use Rattle.cyp_prog.specs.Reading.{program_syntax}
use Rattle.cyp_prog.specs.StmtReaders.{program_at}
use Rattle.cyp_prog.specs.Trees.{ProgramTree}
use Rattle.std.specs.Prelude.{List}

pub one_tree : OneTree
one_tree s t ls p q = one_program s t ls p q

pub one_reading : OneReading
one_reading bytes r s h i = reading_once ProgramTree (List Procedure) program_syntax one_program bytes r s h i

pub read_is_not_refused : ReadIsNotRefused
read_is_not_refused bytes program f h i = cc (one_reading bytes (Ok program) (Err f) h i)

pub some_reading : SomeReading
some_reading bytes = has_reading ProgramTree (List Procedure) program_syntax (λ ls. decided program_spelling ls (whole_of program_at ls) (program_is_read ls)) bytes
