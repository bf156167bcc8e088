use Rattle.std.proofs.Common.{arith, ◌≤◌}
use Rattle.cyp_space.specs.declared.solved.Solved.TheViews.{out-Solved}
use Rattle.cyp_space.specs.Counts.{solved_count, solveds_count}
use Rattle.cyp_space.proofs.Sums.{count_out, count_roll, count_at, swapped}
use Rattle.cyp_space.proofs.solved.Solved.swap_first.Goals as goal

pub returns-clause-same : goal.returns-clause-same
returns-clause-same g c = swapped _ _ _ _ _ _ _ (count_out c.args.self.now) (count_roll _) c.set.ensures.old c.set.ensures.new

pub returns-clause-less : goal.returns-clause-less
returns-clause-less g c =
    let parts = (out-Solved g.row.R.Denot g.row.N.Denot c.args.self.now).parts in
    let whole = count_out c.args.self.now in
    let part : solved_count c.set.result ≤ solveds_count parts = count_at parts _ _ c.set.ensures.old in
    omega arith
