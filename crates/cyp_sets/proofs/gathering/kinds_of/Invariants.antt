use Rattle.std.proofs.Common.{◌≡◌, ◌==◌, [], take}
use Rattle.cyp_term.specs.Terms.{with_all_new}
use Rattle.cyp_sets.proofs.gathering.kinds_of.Given as goal

abbrev pub invariant-loop-class : goal.invariant-loop-class
invariant-loop-class l = l.kinds.items ≡ with_all_new ◌==◌ [] (take l.class-index l.classes)
