use Rattle.std.proofs.Common.{take}
use Rattle.std.specs.Prelude.{flat_map}
use Rattle.cyp_writing.proofs.PrintLines.{line_begins, lines_step, text_written}
use Rattle.cyp_writing.specs.Printing.{pred_line}
use Rattle.cyp_writing.proofs.written.spec_text.Goals as goal

pub pred_line-requires : goal.pred_line-requires
pred_line-requires c = line_begins c.loop-pred.printer (flat_map (pred_line c.args.preds.now) (take c.loop-pred.pred-index c.list-pred-items.result.now)) c.loop-pred.invariant

pub proc_line-requires : goal.proc_line-requires
proc_line-requires c = line_begins c.loop-pred.printer (flat_map (pred_line c.args.preds.now) (take c.loop-pred.pred-index c.list-pred-items.result.now)) c.loop-pred.invariant

pub loop-pred-preserved : goal.loop-pred-preserved
loop-pred-preserved c =
    lines_step (pred_line c.args.preds.now) c.list-pred-items.result.now c.loop-pred.pred-index c.pred-item.result c.loop-pred.printer c.pred_line.new.self
    c.loop-pred-test.true c.pred-item.is c.loop-pred.invariant c.in_ok-pred_line.ensures

pub returns : goal.returns
returns c =
    text_written (record { preds = c.args.preds.now; name = c.args.name.now; goal = c.args.goal.now }) c.list-pred-items.result.now c.loop-pred.pred-index c.loop-pred.printer c.proc_line.new.self c.into_text.result
    c.list-pred-items.ensures.list c.loop-pred-test.false c.loop-pred.invariant c.in_ok-proc_line.ensures c.into_text.ensures
