use Rattle.std.proofs.Common.{rules, w64, FitsSigned}
use Rattle.cyp_diff.proofs.Crowding.{crowded_by}
use Rattle.cyp_diff.proofs.crowds.is_crowded.Goals as goal

pub returns : goal.returns
returns c t x m a =
    let fits_there : FitsSigned w64 c.distance.result = search rules in
    let fits_back : FitsSigned w64 c.distance-2.result = search rules in
    let fits_most : FitsSigned w64 c.max-most.result = search rules in
    let fits_count : FitsSigned w64 c.gathered.result = search rules in
    crowded_by c.args.bounds.now c.args.gaps.now c.max-most.result c.gathered.result c.distance.result c.distance-2.result c.distance.ensures.range c.distance-2.ensures.range
    fits_there fits_back fits_most fits_count c.max-most.ensures.value c.if-most-lt0.false t c.gathered.ensures x m a
