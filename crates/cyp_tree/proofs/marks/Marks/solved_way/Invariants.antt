use Rattle.std.proofs.Common.{ℕ, ◌+◌, ◌-◌, ◌≤◌, ◌<◌}
use Rattle.cyp_tree.specs.Marked.{unsolved_at}
use Rattle.cyp_tree.proofs.marks.Marks.solved_way.Given as goal

abbrev pub invariant-loop-way : goal.invariant-loop-way
invariant-loop-way l = record { from : l.fn.run.first ≤ l.way; unsolved : (v : ℕ) → l.fn.run.first ≤ v → v < l.way → 0 < unsolved_at l.fn.self v }

abbrev pub decreases-loop-way : goal.decreases-loop-way
decreases-loop-way l = l.fn.run.first + l.fn.run.count - l.way
