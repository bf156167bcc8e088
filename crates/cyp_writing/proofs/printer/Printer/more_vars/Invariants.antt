use Rattle.std.proofs.Common.{take, ◌≡◌}
use Rattle.cyp_lex.specs.Lexemes.{Symbol}
use Rattle.cyp_lex.specs.Spelling.{more_spelling}
use Rattle.cyp_lex.specs.declared.token.Sign.TheVariants.{TwoPluses}
use Rattle.cyp_writing.specs.PrintMarks.{with_marks}
use Rattle.cyp_writing.specs.PrintParts.{var_marks}
use Rattle.cyp_writing.proofs.printer.Printer.more_vars.Given as goal

abbrev pub invariant-loop-var : goal.invariant-loop-var
invariant-loop-var l = l.self ≡ with_marks l.initial.self (more_spelling (Symbol TwoPluses) var_marks (take l.var-index l.vars))
