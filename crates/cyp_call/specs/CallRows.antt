-- The rows of Call: each companion in order, each of its matches in order.
use Rattle.std.specs.Prelude.{[], ◌++◌, List, map, suc, ℕ, ◌∷◌}
use Rattle.cyp_heap.specs.declared.goal.Link.{Link}
use Rattle.cyp_heap.specs.declared.goal.Node.{Node}
use Rattle.cyp_step.specs.Rows.{rows}
use Rattle.cyp_step.specs.declared.rule.Row.{Row}
use Rattle.cyp_step.specs.declared.rule.Rule.{Rule}
use Rattle.cyp_step.specs.declared.rule.Rule.TheVariants.{ByCall}
use Rattle.cyp_unify.specs.Matches.{matches}
use Rattle.cyp_unify.specs.declared.found.Match.{Match}

-- the calls of these companions, the first of which is at place `k`, by each match in order
abbrev pub call_rules_at : Node → ℕ → List Link → List Rule
call_rules_at n k [] = []
call_rules_at n k (l ∷ ls) = map (λ (f : Match). ByCall (record { link = k; pairs = f.pairs })) (matches n l) ++ call_rules_at n (suc k) ls

-- the rows that call a companion above the node, in order of companion and then of match
abbrev pub call_rows : Node → List Row
call_rows n = rows n (call_rules_at n 0 n.links)
