use Rattle.std.proofs.Common.{arith}
use Rattle.cyp_diff.proofs.Levels.{place_in, difference_less, le_means, narrow}
use Rattle.cyp_diff.proofs.system.add_le.Goals as goal

pub at_most-requires-clause-first : goal.at_most-requires-clause-first
at_most-requires-clause-first c = omega (arith, place_in c.args.vars.now c.args.a.now.base, c.place.ensures, c.requires.places)

pub at_most-requires-clause-second : goal.at_most-requires-clause-second
at_most-requires-clause-second c = omega (arith, place_in c.args.vars.now c.args.b.now.base, c.place-2.ensures, c.requires.places)

pub returns-clause-means : goal.returns-clause-means
returns-clause-means c =
    let a = c.args.a.now in
    let b = c.args.b.now in
    le_means c.args.vars.now c.args.a.now c.args.b.now c.args.less _ c.place.result c.place-2.result c.args.bounds.now c.at_most.new.bounds c.at_most.result c.place.ensures c.place-2.ensures
    (difference_less c.args.a.now c.args.b.now c.offset.result c.offset-2.result c.args.less (narrow a c.offset-2.result c.offset-2.ensures.range c.offset-2.ensures.offset) (narrow b c.offset.result c.offset.ensures.range c.offset.ensures.offset) c.requires.less c.offset.ensures.offset c.offset-2.ensures.offset) c.at_most.ensures.means
