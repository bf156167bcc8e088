use Rattle.std.proofs.Common.{take, ◌≡◌}
use Rattle.cyp_lex.specs.Lexemes.{Symbol}
use Rattle.cyp_lex.specs.Spelling.{more_spelling}
use Rattle.cyp_writing.specs.PrintMarks.{with_marks}
use Rattle.cyp_writing.proofs.printed_lists.print_more.Given as goal

abbrev pub invariant-loop-item : goal.invariant-loop-item
invariant-loop-item g l = l.to ≡ with_marks l.initial.to (more_spelling (Symbol l.separator) (g.T.Print.spelling l.preds) (take l.item-index l.items))
