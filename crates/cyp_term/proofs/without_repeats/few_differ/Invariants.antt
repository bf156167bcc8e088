use Rattle.std.proofs.Common.{◌≡◌, take}
use Rattle.cyp_term.specs.Terms.{without_repeats}
use Rattle.cyp_term.proofs.without_repeats.few_differ.Given as goal

abbrev pub invariant-loop-k : goal.invariant-loop-k
invariant-loop-k g l = without_repeats g.T.PartialEq.eq (take l.k l.items) ≡ take l.k l.items
