use Rattle.cyp_spec.proofs.PredSteps.{first_fails_at, first_right_at, first_small, many_others_at, many_params_at, once_at, others_decide_at, others_right_at, others_small_at}
use Rattle.cyp_spec.proofs.pred_limits.is_pred_within.Goals as goal

pub returns-then-params-gt-MOST_PARAMS : goal.returns-then-params-gt-MOST_PARAMS
returns-then-params-gt-MOST_PARAMS c =
    many_params_at c.args.preds.now c.args.pred.now c.as_slice-params.result.now c.as_slice-params.ensures c.as_slice-others.result.now c.as_slice-others.ensures c.if-params-gt-MOST_PARAMS.true

pub returns-then-others-gt-MOST_OTHERS : goal.returns-then-others-gt-MOST_OTHERS
returns-then-others-gt-MOST_OTHERS c =
    many_others_at c.args.preds.now c.args.pred.now c.as_slice-params.result.now c.as_slice-params.ensures c.as_slice-others.result.now c.as_slice-others.ensures c.if-others-gt-MOST_OTHERS.true

pub is_clause_within-requires : goal.is_clause_within-requires
is_clause_within-requires c =
    let ps = c.as_slice-params.result.now in
    let cs = c.as_slice-others.result.now in
    record {
      once = once_at c.args.preds.now c.args.pred.now ps c.as_slice-params.ensures cs c.as_slice-others.ensures c.requires.right;
      right = first_right_at c.args.preds.now c.args.pred.now ps c.as_slice-params.ensures cs c.as_slice-others.ensures c.requires.right;
      small = first_small c.args.preds.now c.args.pred.now ps c.as_slice-params.ensures cs c.as_slice-others.ensures c.requires.small;
    }

pub returns-then-not-branch : goal.returns-then-not-branch
returns-then-not-branch c =
    first_fails_at c.args.preds.now c.args.pred.now c.as_slice-params.result.now c.as_slice-params.ensures c.as_slice-others.result.now c.as_slice-others.ensures _
    c.in_ok-is_clause_within.ensures c.if-not-branch.true

pub are_clauses_within-requires : goal.are_clauses_within-requires
are_clauses_within-requires c =
    let ps = c.as_slice-params.result.now in
    let cs = c.as_slice-others.result.now in
    record {
      once = once_at c.args.preds.now c.args.pred.now ps c.as_slice-params.ensures cs c.as_slice-others.ensures c.requires.right;
      right = others_right_at c.args.preds.now c.args.pred.now ps c.as_slice-params.ensures cs c.as_slice-others.ensures c.requires.right;
      small = others_small_at c.args.preds.now c.args.pred.now ps c.as_slice-params.ensures cs c.as_slice-others.ensures c.requires.small;
    }

pub returns : goal.returns
returns c =
    others_decide_at c.args.preds.now c.args.pred.now c.as_slice-params.result.now c.as_slice-params.ensures c.as_slice-others.result.now c.as_slice-others.ensures
    c.if-params-gt-MOST_PARAMS.false c.if-others-gt-MOST_OTHERS.false _ c.in_ok-is_clause_within.ensures c.if-not-branch.false _ c.in_ok-others_within.ensures
