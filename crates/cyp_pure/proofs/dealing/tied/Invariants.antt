use Rattle.std.proofs.Common.{◌≡◌, ◌++◌, take}
use Rattle.std.specs.List.{zip}
use Rattle.cyp_pure.specs.Dealing.{ties}
use Rattle.cyp_pure.proofs.dealing.tied.Given as goal

abbrev pub invariant-loop-k : goal.invariant-loop-k
invariant-loop-k l = l.facts.items ≡ l.dealing.facts ++ ties l.term l.class (take l.k (zip l.terms l.classes))
