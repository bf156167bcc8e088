use Rattle.std.proofs.Common.{take, ◌≡◌}
use Rattle.cyp_lex.specs.Spelling.{all_spelling}
use Rattle.cyp_writing.specs.PrintMarks.{with_marks}
use Rattle.cyp_writing.proofs.printed_lists.print_all.Given as goal

abbrev pub invariant-loop-item : goal.invariant-loop-item
invariant-loop-item g l = l.to ≡ with_marks l.initial.to (all_spelling (g.T.Print.spelling l.preds) (take l.item-index l.items))
