use Rattle.std.proofs.Common.{◌∙◌}
use Rattle.cyp_spec.proofs.GuardPairs.{pair_few, pair_ints, pair_overlaps}
use Rattle.cyp_spec.proofs.guards.can_both_hold.Goals as goal

pub solve-requires : goal.solve-requires
solve-requires c =
    let r = c.requires in
    let is = c.as_slice.ensures.value ∙ c.in_ok-both.ensures in
    record {
      ints = pair_ints c.args.one.now c.args.other.now r.one r.other c.as_slice.result.now is;
      few = pair_few c.args.one.now c.args.other.now r.one r.other c.as_slice.result.now is;
    }

pub returns : goal.returns
returns c =
    let r = c.requires in
    c.is_some.ensures ∙ pair_overlaps c.args.one.now c.args.other.now r.one r.other c.as_slice.result.now (c.as_slice.ensures.value ∙ c.in_ok-both.ensures) c.in_ok-solution.solution c.in_ok-solution.ensures
