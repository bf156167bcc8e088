use Rattle.std.proofs.Common.{◌≡◌, drop}
use Rattle.std.specs.List.{list_any}
use Rattle.cyp_term.specs.Terms.{wide_set, wide_term}
use Rattle.cyp_unify.proofs.walk.narrow_set.Given as goal

abbrev pub invariant-loop-elem : goal.invariant-loop-elem
invariant-loop-elem l = wide_set l.set ≡ list_any wide_term (drop l.elem-index l.elem-items)
