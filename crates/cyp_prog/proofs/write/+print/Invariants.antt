use Rattle.std.proofs.Common.{◌≡◌, ◌++◌, drop, map}
use Rattle.cyp_prog.specs.ProgramText.{body_text}
use Rattle.cyp_prog.specs.Programs.{body_of, plain_proc, plain_stmt}
use Rattle.cyp_prog.specs.Rules.{names_of}
use Rattle.cyp_prog.proofs.write.+print.Given as goal

abbrev pub invariant-add_stmts-loop-stmt : goal.invariant-add_stmts-loop-stmt
invariant-add_stmts-loop-stmt l =
    l.text.items ++ body_text (names_of (map plain_proc l.procs)) l.level (body_of (map plain_stmt (drop l.stmt-index l.stmts)))
    ≡ l.fn.text.items ++ body_text (names_of (map plain_proc l.procs)) l.level (body_of (map plain_stmt l.stmts))
