use Rattle.std.proofs.Common.{◌≡◌, rules, subst, sym, arith, to_z, of_z, w64, FitsSigned}
use Rattle.std.proofs.lemmas.Int.{ints, to_z-of_z}
use Rattle.std.specs.List.{All}
use Rattle.cyp_diff.proofs.Levels.{All-push}
use Rattle.cyp_diff.specs.Solution.{IsLow}
use Rattle.cyp_diff.proofs.spreading.lowered.Goals as goal

pub loop-i-preserved : goal.loop-i-preserved
loop-i-preserved c =
    let y = c.in-Some.y in
    let fits : FitsSigned w64 y = omega (arith, ints, c.in-Some.ensures.least, c.in-Some.ensures.most) in
    let same : to_z w64 (of_z w64 y) ≡ y = to_z-of_z w64 y fits in
    record {
      long = search rules;
      low = subst (All IsLow) (sym c.in_ok-push.ensures.items) (All-push IsLow c.loop-i.ys.items (to_z w64 (of_z w64 y)) c.loop-i.invariant.low (subst IsLow (sym same) c.in-Some.ensures));
    }
