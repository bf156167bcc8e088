use Rattle.std.proofs.Common.{rules, pos, w64, get_or, length, ap, FitsSigned, arith}
use Rattle.cyp_diff.proofs.Reading.{range_read}
use Rattle.cyp_diff.proofs.bounds.Bounds.distance.Goals as goal

pub returns-clause-range : goal.returns-clause-range
returns-clause-range c =
    let fits : FitsSigned w64 (get_or c.index.result.now c.args.j (pos 0)) = search rules in
    range_read c.self.inside.rows.items c.index.result.now c.args.i c.args.j c.self.invariant (omega (arith, ap length c.self.view_is, c.requires.first)) (omega (arith, ap length c.self.view_is, c.requires.second)) c.index.ensures fits
