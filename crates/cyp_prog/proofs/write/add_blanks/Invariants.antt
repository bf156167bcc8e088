use Rattle.std.proofs.Common.{◌≡◌, ◌++◌, ◌-◌}
use Rattle.cyp_prog.specs.ProgramText.{blanks}
use Rattle.cyp_prog.proofs.write.add_blanks.Given as goal

abbrev pub invariant-loop : goal.invariant-loop
invariant-loop l = l.text.items ++ blanks (l.level - l.counter) ≡ l.fn.text.items ++ blanks l.level
