use Rattle.std.proofs.Common.{◌∙◌, Option, ap, sym}
use Rattle.cyp_lex.specs.declared.fault.Fault.{Fault}
use Rattle.cyp_spec.proofs.PredLeast.{inner_decides, limit_decides}
use Rattle.cyp_names.specs.LeastFaults.{lesser_of}
use Rattle.cyp_spec.proofs.pred_limits.pred_fault.Goals as goal

pub returns-then-not-branch : goal.returns-then-not-branch
returns-then-not-branch c =
    c.fault.ensures ∙ limit_decides c.args.preds.now c.args.pred.now (sym c.in_ok-is_pred_within.ensures ∙ c.if-not-branch.true) c.requires.order

pub guards_fault-requires : goal.guards_fault-requires
guards_fault-requires c = record {
  right = c.requires.right;
  small = c.requires.small;
  within = sym c.in_ok-is_pred_within.ensures ∙ c.if-not-branch.false;
}

pub returns : goal.returns
returns c =
    c.lesser-2.ensures ∙ ap (λ (x : Option Fault). lesser_of x c.blocks_fault-blocks.result) c.lesser.ensures
    ∙ inner_decides c.args.preds.now c.args.pred.now (sym c.in_ok-is_pred_within.ensures ∙ c.if-not-branch.false) c.in_ok-guards.guards c.owners_fault-owners.result c.blocks_fault-blocks.result
    c.in_ok-guards.ensures c.owners_fault-owners.ensures c.blocks_fault-blocks.ensures
