use Rattle.cyp_diff.proofs.Levels.{difference, gap_means, is_gap, narrow}
use Rattle.cyp_diff.proofs.system.gap_of.Goals as goal

pub returns-clause-gap : goal.returns-clause-gap
returns-clause-gap c =
    let a = c.args.a.now in
    let b = c.args.b.now in
    is_gap c.args.vars.now c.args.a.now c.args.b.now _ (narrow a c.offset-2.result c.offset-2.ensures.range c.offset-2.ensures.offset) (narrow b c.offset.result c.offset.ensures.range c.offset.ensures.offset) c.place.ensures c.place-2.ensures
    (difference c.args.a.now c.args.b.now c.offset.result c.offset-2.result (narrow a c.offset-2.result c.offset-2.ensures.range c.offset-2.ensures.offset) (narrow b c.offset.result c.offset.ensures.range c.offset.ensures.offset) c.offset.ensures.offset c.offset-2.ensures.offset)

pub returns-clause-means : goal.returns-clause-means
returns-clause-means c =
    let a = c.args.a.now in
    let b = c.args.b.now in
    gap_means c.args.vars.now c.args.a.now c.args.b.now _ c.place.ensures c.place-2.ensures
    (difference c.args.a.now c.args.b.now c.offset.result c.offset-2.result (narrow a c.offset-2.result c.offset-2.ensures.range c.offset-2.ensures.offset) (narrow b c.offset.result c.offset.ensures.range c.offset.ensures.offset) c.offset.ensures.offset c.offset-2.ensures.offset)
