use Rattle.std.proofs.Common.{refl, arith}
use Rattle.cyp_lanes.proofs.Lanes.{fits_still, modest_still, eight_step, last_step}
use Rattle.cyp_lanes.proofs.rows.relax_row.Goals as goal

pub relax_lanes-requires-clause-dst : goal.relax_lanes-requires-clause-dst
relax_lanes-requires-clause-dst c = fits_still c.eight-here.result c.eight-here.ensures.fit

pub relax_lanes-requires-clause-src : goal.relax_lanes-requires-clause-src
relax_lanes-requires-clause-src c = modest_still c.loop-at.at c.args.src.now c.eight-there.result c.eight-there.ensures.entries c.eight-there.ensures.fit c.requires.entries

pub loop-at-preserved : goal.loop-at-preserved
loop-at-preserved c = (
  omega arith,
  eight_step c.args.dst.now c.args.src.now c.loop-at.dst c.eight-here.result c.eight-there.result c.relax_lanes.result c.loop-at.at c.args.add _ refl
      c.requires.lengths c.loop-at-test.true c.eight-here.ensures.fit c.eight-there.ensures.fit c.eight-here.ensures.entries c.eight-there.ensures.entries c.requires.add c.requires.entries
      c.loop-at.invariant.1 c.relax_lanes.ensures,
)

pub returns : goal.returns
returns c = last_step c.args.dst.now c.args.src.now c.loop-at.dst c.relax_tail.new.dst c.loop-at.at c.args.add _ refl c.requires.lengths c.requires.add c.loop-at.invariant.0 c.loop-at.invariant.1 c.relax_tail.ensures
