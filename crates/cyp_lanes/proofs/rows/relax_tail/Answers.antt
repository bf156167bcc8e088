use Rattle.std.proofs.Common.{rules, pos, refl, w64, get_or, FitsSigned, arith}
use Rattle.cyp_lanes.proofs.Lanes.{entry_step}
use Rattle.cyp_lanes.proofs.rows.relax_tail.Goals as goal

pub loop-i-preserved : goal.loop-i-preserved
loop-i-preserved c =
    let fits : FitsSigned w64 (get_or c.loop-i.dst c.loop-i.i (pos 0)) = search rules in
    let fits_result : FitsSigned w64 c.min.result = search rules in
    entry_step c.args.dst.now c.args.src.now c.loop-i.dst c.loop-i.i c.args.add _ c.min.result refl c.requires.lengths c.loop-i-test.true
    fits (c.requires.entries c.loop-i.i (pos 0) (omega arith)) c.requires.add fits_result c.loop-i.invariant c.min.ensures.value
