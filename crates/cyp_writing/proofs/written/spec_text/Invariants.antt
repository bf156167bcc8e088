use Rattle.std.proofs.Common.{[], take, ◌≡◌}
use Rattle.std.specs.Prelude.{flat_map}
use Rattle.cyp_writing.specs.PrintMarks.{with_lines}
use Rattle.cyp_writing.specs.Printing.{pred_line}
use Rattle.cyp_writing.proofs.written.spec_text.Given as goal

abbrev pub invariant-loop-pred : goal.invariant-loop-pred
invariant-loop-pred l = l.printer ≡ with_lines [] (flat_map (pred_line l.preds) (take l.pred-index l.pred-items))
