use Rattle.std.proofs.Common.{◌∙◌, true, subst}
use Rattle.cyp_diff.specs.Systems.{LitMeans}
use Rattle.cyp_diff.proofs.Gathering.{says_more, says_none, says_all}
use Rattle.cyp_diff.proofs.system.integers_of.Goals as goal

pub returns-then-not-branch : goal.returns-then-not-branch
returns-then-not-branch c =
    says_none c.args.vars.now c.args.lits.now c.loop-lit.lit-index c.lit-item.result c.loop-lit.bounds c.add_lit.new.bounds c.loop-lit.gaps.items c.add_lit.new.gaps.items c.loop-lit-test.true c.lit-item.is
    c.loop-lit.invariant.means
    (subst (λ r. LitMeans c.args.vars.now c.lit-item.result c.loop-lit.bounds c.loop-lit.gaps.items c.add_lit.new.bounds c.add_lit.new.gaps.items r) c.if-not-branch.true c.in_ok-add_lit.ensures)

pub loop-lit-preserved : goal.loop-lit-preserved
loop-lit-preserved c =
    let added : LitMeans c.args.vars.now c.lit-item.result c.loop-lit.bounds c.loop-lit.gaps.items c.add_lit.new.bounds c.add_lit.new.gaps.items true =
    subst (λ r. LitMeans c.args.vars.now c.lit-item.result c.loop-lit.bounds c.loop-lit.gaps.items c.add_lit.new.bounds c.add_lit.new.gaps.items r) c.if-not-branch.false c.in_ok-add_lit.ensures in
    record {
      places = added.0 ∙ c.loop-lit.invariant.places;
      gaps = added.1;
      means = says_more c.args.vars.now c.args.lits.now c.loop-lit.lit-index c.lit-item.result c.loop-lit.bounds c.add_lit.new.bounds c.loop-lit.gaps.items c.add_lit.new.gaps.items c.loop-lit-test.true c.lit-item.is
          c.loop-lit.invariant.means added;
    }

pub returns : goal.returns
returns c = says_all c.args.vars.now c.args.lits.now c.loop-lit.lit-index c.loop-lit.bounds c.loop-lit.gaps.items c.from_vec.result c.separate.result c.loop-lit-test.false c.loop-lit.invariant.places c.loop-lit.invariant.means c.from_vec.ensures c.separate.ensures
