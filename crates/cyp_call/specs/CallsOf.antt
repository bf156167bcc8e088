-- The calls of one companion.
use Rattle.std.specs.Prelude.{List, map, ℕ}
use Rattle.cyp_heap.specs.declared.goal.Link.{Link}
use Rattle.cyp_heap.specs.declared.goal.Node.{Node}
use Rattle.cyp_step.specs.declared.rule.Rule.{Rule}
use Rattle.cyp_step.specs.declared.rule.Rule.TheVariants.{ByCall}
use Rattle.cyp_unify.specs.Matches.{matches}
use Rattle.cyp_unify.specs.declared.found.Match.{Match}

-- the calls of the companion at this place by these matches
abbrev pub calls_by : ℕ → List Match → List Rule
calls_by k fs = map (λ (f : Match). ByCall (record { link = k; pairs = f.pairs })) fs

-- the calls of this companion, which is at this place, by each of its matches
abbrev pub calls_of : Node → ℕ → Link → List Rule
calls_of n k l = calls_by k (matches n l)
