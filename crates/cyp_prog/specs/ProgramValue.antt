-- What contracts see of a program.
use Rattle.std.specs.Prelude.{List}
use Rattle.cyp_prog.specs.declared.stmt.Proc.{Proc}

-- its procedures, the main one first
pub record ProgramValue : Type 0 where
  pub procs : List Proc
