use Rattle.std.specs.Prelude.{ℕ}
use Rattle.cyp_top.specs.declared.status.Status.{Status}
use Rattle.cyp_top.specs.declared.status.Status.TheVariants.{Program, NoProgram, Spent, Refused, Usage, ReadFault, WriteFault, NoMemory}

-- the exit code of each status
abbrev pub code_of : Status → ℕ
code_of Program = 0
code_of NoProgram = 1
code_of Spent = 2
code_of Refused = 3
code_of Usage = 4
code_of ReadFault = 5
code_of WriteFault = 6
code_of NoMemory = 7
