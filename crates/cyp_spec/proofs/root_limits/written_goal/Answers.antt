use Rattle.std.proofs.Common.{arith}
use Rattle.cyp_spec.proofs.GoalsReady.{many_in_pre}
use Rattle.cyp_spec.proofs.RootSteps.{judged_at, many_ints_at, many_sets_at, readable_at}
use Rattle.cyp_spec.proofs.root_limits.written_goal.Goals as goal

pub returns-then-len-gt-MOST_CHUNKS : goal.returns-then-len-gt-MOST_CHUNKS
returns-then-len-gt-MOST_CHUNKS c = many_in_pre c.args.tree.now (omega (arith, c.if-len-gt-MOST_CHUNKS.true, c.len.ensures))

pub returns-then-count-gt-MOST_NAMES : goal.returns-then-count-gt-MOST_NAMES
returns-then-count-gt-MOST_NAMES c =
    let r = c.requires in
    many_ints_at c.args.tree.now r.names r.preds r.small c.in_ok-scope.scope c.in_ok-scope.ensures (omega (arith, c.if-count-gt-MOST_NAMES.true, c.count.ensures))

pub returns-then-count-gt-MOST_NAMES-2 : goal.returns-then-count-gt-MOST_NAMES-2
returns-then-count-gt-MOST_NAMES-2 c =
    let r = c.requires in
    many_sets_at c.args.tree.now r.names r.preds r.small c.in_ok-scope.scope c.in_ok-scope.ensures (omega (arith, c.if-count-gt-MOST_NAMES-2.true, c.count-2.ensures))

pub read_goal-requires : goal.read_goal-requires
read_goal-requires c =
    let r = c.requires in
    readable_at c.args.tree.now r.names r.preds r.small (omega (arith, c.if-len-gt-MOST_CHUNKS.false, c.len.ensures)) c.in_ok-scope.scope c.in_ok-scope.ensures
    (omega (arith, c.if-count-gt-MOST_NAMES.false, c.count.ensures)) (omega (arith, c.if-count-gt-MOST_NAMES-2.false, c.count-2.ensures))

pub returns-then-not-branch : goal.returns-then-not-branch
returns-then-not-branch c =
    let r = c.requires in
    judged_at c.args.tree.now r.names r.preds r.small c.in_ok-goal.goal c.in_ok-goal.ensures _ _ c.in_ok-is_goal_within.ensures c.if-not-branch.true

pub returns : goal.returns
returns c =
    let r = c.requires in
    (judged_at c.args.tree.now r.names r.preds r.small c.in_ok-goal.goal c.in_ok-goal.ensures _ _ c.in_ok-is_goal_within.ensures c.if-not-branch.false, c.in_ok-goal.ensures)
