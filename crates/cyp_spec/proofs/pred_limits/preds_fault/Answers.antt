use Rattle.std.proofs.Common.{flat_map}
use Rattle.std.specs.Prelude.{slice_get}
use Rattle.cyp_spec.proofs.LeastFaults.{least_end}
use Rattle.cyp_spec.proofs.PredTests.{all_at, among_at}
use Rattle.cyp_spec.specs.InOrder.{is_name_first}
use Rattle.cyp_names.proofs.LesserFaults.{least_more, least_of_two}
use Rattle.cyp_spec.specs.Small.{PredSmall}
use Rattle.cyp_term.proofs.Lists.{each_at}
use Rattle.cyp_names.proofs.NoFaults.{none_each}
use Rattle.cyp_names.specs.PredFaults.{extra_pred_fault, pred_limit_faults}
use Rattle.cyp_names.specs.NameFaults.{pred_faults}
use Rattle.cyp_spec.proofs.pred_limits.preds_fault.Goals as goal

pub loop-pred-preserved : goal.loop-pred-preserved
loop-pred-preserved c =
    least_more (pred_limit_faults c.args.preds.now) c.args.preds.now c.loop-pred.pred-index c.pred-item.result c.loop-pred.least c.in_ok-pred_fault.field-0 c.lesser-least.result _ c.loop-pred-test.true
    c.pred-item.is c.in_ok-pred_fault.ensures c.lesser-least.ensures c.loop-pred.invariant

pub pred_fault-requires : goal.pred_fault-requires
pred_fault-requires c =
    let qs = c.args.preds.now in
    let there = among_at qs c.loop-pred.pred-index c.pred-item.result c.loop-pred-test.true c.pred-item.is in
    record {
      right = none_each (pred_faults qs) qs c.requires.right c.pred-item.result there;
      small = all_at PredSmall qs c.loop-pred.pred-index c.pred-item.result c.requires.small c.loop-pred-test.true c.pred-item.is;
      order = each_at is_name_first c.pred-item.result qs c.requires.order there;
    }

pub returns : goal.returns
returns c =
    let qs = c.args.preds.now in
    least_of_two c.loop-pred.least c.extra_fault.result c.lesser.result (flat_map (pred_limit_faults qs) qs) (extra_pred_fault (slice_get qs 16))
    (least_end (pred_limit_faults qs) qs c.loop-pred.pred-index c.loop-pred.least _ c.loop-pred-test.false c.loop-pred.invariant) c.extra_fault.ensures c.lesser.ensures
