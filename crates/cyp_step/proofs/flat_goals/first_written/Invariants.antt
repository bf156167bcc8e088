use Rattle.std.proofs.Common.{◌≡◌, drop, pos}
use Rattle.cyp_step.specs.FlatRules.{first_place, is_written_at}
use Rattle.cyp_term.specs.Terms.{plus}
use Rattle.cyp_step.proofs.flat_goals.first_written.Given as goal

abbrev pub invariant-loop-k : goal.invariant-loop-k
invariant-loop-k l = first_place (is_written_at (plus l.at (pos l.more))) l.k (drop l.k l.chunks) ≡ first_place (is_written_at (plus l.at (pos l.more))) 0 l.chunks
