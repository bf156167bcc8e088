use Rattle.std.proofs.Common.{rules, pos, w64, get_or, FitsSigned, sym, arith}
use Rattle.cyp_diff.proofs.Meeting.{least-none}
use Rattle.cyp_diff.proofs.Solving.{least_step}
use Rattle.cyp_diff.proofs.bounds.least_of.Goals as goal

pub loop-k-init : goal.loop-k-init
loop-k-init c = sym (least-none _)

pub loop-k-preserved : goal.loop-k-preserved
loop-k-preserved c =
    let fits : FitsSigned w64 (get_or c.args.row.now c.loop-k.k (pos 0)) = search rules in
    let fits_result : FitsSigned w64 c.min-low.result = search rules in
    least_step c.args.row.now c.loop-k.k _ c.min-low.result (omega arith) fits fits_result c.loop-k.invariant c.min-low.ensures.value
