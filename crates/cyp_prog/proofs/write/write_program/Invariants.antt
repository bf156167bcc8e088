use Rattle.std.proofs.Common.{◌≡◌, ◌++◌, drop, map}
use Rattle.cyp_prog.specs.ProgramText.{procedures_text}
use Rattle.cyp_prog.specs.Programs.{plain_proc}
use Rattle.cyp_prog.specs.Rules.{names_of}
use Rattle.cyp_prog.proofs.write.write_program.Given as goal

abbrev pub invariant-loop-proc : goal.invariant-loop-proc
invariant-loop-proc l =
    l.text.items ++ procedures_text (names_of (map plain_proc l.procs)) (map plain_proc (drop l.proc-index l.procs))
    ≡ procedures_text (names_of (map plain_proc l.procs)) (map plain_proc l.procs)
