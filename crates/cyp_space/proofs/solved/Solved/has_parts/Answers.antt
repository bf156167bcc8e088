use Rattle.std.proofs.Common.{arith}
use Rattle.std.proofs.lemmas.Bool.Decides.{nat_tests}
use Rattle.cyp_space.specs.declared.solved.Solved.TheViews.{out-Solved}
use Rattle.cyp_space.proofs.Sums.{count_out, count_length, no_parts}
use Rattle.cyp_space.proofs.solved.Solved.has_parts.Goals as goal

pub returns : goal.returns
returns g c =
    let parts = (out-Solved g.row.R.Denot g.row.N.Denot c.args.self.now).parts in
    let whole = count_out c.args.self.now in
    let long = count_length parts in
    let short = no_parts parts in
    grind (arith, nat_tests)
