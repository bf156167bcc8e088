use Rattle.std.proofs.Common.{◌≡◌, drop}
use Rattle.cyp_names.specs.ReadTerms.{sort_in}
use Rattle.cyp_names.proofs.scope.Scope.sort_of.Given as goal

abbrev pub invariant-loop-other : goal.invariant-loop-other
invariant-loop-other l = sort_in (drop l.other-index l.other-items) l.name ≡ sort_in l.other-items l.name
