use Rattle.cyp_spec.proofs.TextSteps.{found_at, none_at, order_at, right_at, small_at}
use Rattle.cyp_spec.proofs.limits.limit_fault.Goals as goal

pub preds_fault-requires : goal.preds_fault-requires
preds_fault-requires c = record {
  right = right_at c.args.tree.now c.as_slice-preds.result.now c.as_slice-preds.ensures c.requires.names;
  small = small_at c.args.tree.now c.as_slice-preds.result.now c.as_slice-preds.ensures c.requires.small;
  order = order_at c.args.tree.now c.as_slice-preds.result.now c.as_slice-preds.ensures c.requires.order;
}

pub returns-in-Some : goal.returns-in-Some
returns-in-Some c =
    found_at c.args.tree.now c.as_slice-preds.result.now c.as_slice-preds.ensures c.requires.order c.in_ok-found.found c.in_ok-found.ensures c.in-Some.fault c.in-Some.is

pub procedure_fault-requires : goal.procedure_fault-requires
procedure_fault-requires c = record {
  names = c.requires.names;
  small = c.requires.small;
  order = c.requires.order;
  preds = none_at c.args.tree.now c.as_slice-preds.result.now c.as_slice-preds.ensures c.in_ok-found.found c.in_ok-found.ensures c.in-None.is;
}
