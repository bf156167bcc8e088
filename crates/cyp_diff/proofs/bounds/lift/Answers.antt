use Rattle.std.proofs.Common.{rules, pos, w64, get_or, FitsSigned, arith}
use Rattle.cyp_diff.proofs.Reading.{lift_step}
use Rattle.cyp_diff.proofs.bounds.lift.Goals as goal

pub loop-k-preserved : goal.loop-k-preserved
loop-k-preserved c =
    let fits : FitsSigned w64 (get_or c.loop-k.out c.loop-k.k (pos 0)) = search rules in
    let fits_result : FitsSigned w64 c.lift_entry.result = search rules in
    lift_step c.args.row.now c.loop-k.out c.loop-k.k c.lift_entry.result c.loop-k.invariant (omega arith) fits fits_result c.lift_entry.ensures
