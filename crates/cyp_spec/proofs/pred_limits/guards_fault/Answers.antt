use Rattle.std.proofs.Common.{List, subst, sym}
use Rattle.std.specs.Prelude.{IsTrue}
use Rattle.std.specs.List.{All}
use Rattle.cyp_spec.proofs.GuardSteps.{begin_at, end_at, ints_more, ints_none, turn_at}
use Rattle.cyp_spec.proofs.PredSteps.{first_right_at, first_small, first_within_at, item_right_at, item_small_at, item_within_at, once_at}
use Rattle.cyp_term.specs.Integers.{is_int_lit}
use Rattle.cyp_term.specs.declared.lit.Lit.{Lit}
use Rattle.cyp_spec.proofs.pred_limits.guards_fault.Goals as goal

pub guard_of-requires : goal.guard_of-requires
guard_of-requires c =
    let r = c.requires in
    let ps = c.as_slice-params.result.now in
    let cs = c.as_slice-others.result.now in
    record {
      once = once_at c.args.preds.now c.args.pred.now ps c.as_slice-params.ensures cs c.as_slice-others.ensures r.right;
      right = first_right_at c.args.preds.now c.args.pred.now ps c.as_slice-params.ensures cs c.as_slice-others.ensures r.right;
      small = first_small c.args.preds.now c.args.pred.now ps c.as_slice-params.ensures cs c.as_slice-others.ensures r.small;
      within = first_within_at c.args.preds.now c.args.pred.now ps c.as_slice-params.ensures cs c.as_slice-others.ensures r.within;
    }

pub guard_of-requires-in-loop-clause : goal.guard_of-requires-in-loop-clause
guard_of-requires-in-loop-clause c =
    let r = c.requires in
    let ps = c.as_slice-params.result.now in
    let cs = c.as_slice-others.result.now in
    let i = c.loop-clause.clause-index in
    let d = c.clause-item.result in
    record {
      once = once_at c.args.preds.now c.args.pred.now ps c.as_slice-params.ensures cs c.as_slice-others.ensures r.right;
      right = item_right_at c.args.preds.now c.args.pred.now ps c.as_slice-params.ensures cs c.as_slice-others.ensures r.right i d c.loop-clause-test.true c.clause-item.is;
      small = item_small_at c.args.preds.now c.args.pred.now ps c.as_slice-params.ensures cs c.as_slice-others.ensures r.small i d c.loop-clause-test.true c.clause-item.is;
      within = item_within_at c.args.preds.now c.args.pred.now ps c.as_slice-params.ensures cs c.as_slice-others.ensures r.within i d c.loop-clause-test.true c.clause-item.is;
    }

pub loop-clause-init : goal.loop-clause-init
loop-clause-init c =
    let ps = c.as_slice-params.result.now in
    let cs = c.as_slice-others.result.now in
    record {
      made = begin_at c.args.preds.now c.args.pred.now ps c.as_slice-params.ensures cs c.as_slice-others.ensures c.new-seen.result.items c.push.new.self.items c.in_ok-guard_of.field-0
          c.new-seen.ensures.items c.in_ok-guard_of.ensures.guard c.in_ok-push.ensures.items;
      ints = ints_more c.new-seen.result.items c.push.new.self.items c.in_ok-guard_of.field-0 (ints_none c.new-seen.result.items c.new-seen.ensures.items) c.in_ok-guard_of.ensures.ints c.in_ok-push.ensures.items;
    }

pub guard_fault-requires : goal.guard_fault-requires
guard_fault-requires c = record {
  seen = subst (λ (ls : List Lit). All (λ l. IsTrue (is_int_lit l)) ls) (sym c.as_slice.ensures.value) c.loop-clause.invariant.ints;
  guard = c.in_ok-guard.ensures.ints;
}

pub loop-clause-preserved : goal.loop-clause-preserved
loop-clause-preserved c =
    let ps = c.as_slice-params.result.now in
    let cs = c.as_slice-others.result.now in
    let seen = c.loop-clause.seen.items in
    record {
      made = turn_at c.args.preds.now c.args.pred.now ps c.as_slice-params.ensures cs c.as_slice-others.ensures c.loop-clause.clause-index c.clause-item.result seen c.as_slice.result.now
          c.push-in-loop-clause.new.self.items c.in_ok-guard.guard c.loop-clause.least c.lesser-least.result c.in_ok-guard_fault.field-0 _
          c.loop-clause-test.true c.clause-item.is c.in_ok-guard.ensures.guard c.as_slice.ensures.value c.in_ok-guard_fault.ensures c.lesser-least.ensures c.in_ok-push-2.ensures.items
          c.loop-clause.invariant.made;
      ints = ints_more seen c.push-in-loop-clause.new.self.items c.in_ok-guard.guard c.loop-clause.invariant.ints c.in_ok-guard.ensures.ints c.in_ok-push-2.ensures.items;
    }

pub returns : goal.returns
returns c =
    let ps = c.as_slice-params.result.now in
    let cs = c.as_slice-others.result.now in
    end_at c.args.preds.now c.args.pred.now ps c.as_slice-params.ensures cs c.as_slice-others.ensures c.loop-clause.clause-index c.loop-clause.seen.items c.loop-clause.least _
    c.loop-clause-test.false c.loop-clause.invariant.made
