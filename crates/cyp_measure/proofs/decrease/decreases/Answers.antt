use Rattle.std.proofs.Common.{◌∙◌, arith}
use Rattle.cyp_measure.proofs.Falls.{all_entries}
use Rattle.cyp_measure.proofs.decrease.decreases.Goals as goal

pub returns : goal.returns
returns c =
    c.from_vec.ensures
    ∙ all_entries c.args.old.now c.args.new.now c.loop-place.place c.loop-place.ways.items c.requires (omega (arith, c.loop-place-test.false)) c.loop-place.invariant
