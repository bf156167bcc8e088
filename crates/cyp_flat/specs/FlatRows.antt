-- The rows of the rules that unfold and call nothing.
use Rattle.std.specs.Prelude.{[], ◌++◌, List, None, Option, Some, cond, filter, map, nat_lt, ◌∷◌}
use Rattle.cyp_heap.specs.Goals.{goal_vars}
use Rattle.cyp_heap.specs.declared.goal.Goal.{Goal}
use Rattle.cyp_heap.specs.declared.goal.Node.{Node}
use Rattle.cyp_step.specs.FlatRules.{first_exist, is_universal}
use Rattle.cyp_step.specs.Rows.{first_of_all, least_allowed, pre_places, rows}
use Rattle.cyp_step.specs.declared.rule.Row.{Row}
use Rattle.cyp_step.specs.declared.rule.Rule.TheVariants.{ByAlloc, ByEmp, ByFrame, ByFree, ByInconsistent, ByPick, ByRead, ByWrite}
use Rattle.cyp_term.specs.Terms.{var_eq, without_repeats}
use Rattle.cyp_term.specs.declared.term.Var.{Var}

-- the kinds of row that stand alone: a contradiction, the end, the least read that is allowed
abbrev pub lone_rows : Node → List Row
lone_rows n =
    first_of_all (rows n (ByInconsistent ∷ [])) (λ _.
    first_of_all (rows n (ByEmp ∷ [])) (λ _.
    rows n (least_allowed n (map ByRead (pre_places n)))))

-- each frame, the write, the least free that is allowed, and the allocation
abbrev pub heap_rows : Node → List Row
heap_rows n =
    rows n (map ByFrame (pre_places n))
    ++ rows n (map ByWrite (pre_places n))
    ++ rows n (least_allowed n (map ByFree (pre_places n)))
    ++ rows n (ByAlloc ∷ [])

-- where a row stands alone, it is that row
abbrev pub flat_rows : Node → List Row
flat_rows n = first_of_all (lone_rows n) (λ _. heap_rows n)

-- the variable stands before the first of the list with a greater number
abbrev pub by_number : Var → List Var → List Var
by_number v [] = v ∷ []
by_number v (w ∷ ws) = cond (nat_lt v.number w.number) (v ∷ w ∷ ws) (w ∷ by_number v ws)

-- the variables sorted by number
abbrev pub in_order : List Var → List Var
in_order [] = []
in_order (v ∷ vs) = by_number v (in_order vs)

-- the universal variables of the variable's sort, each once, sorted by number; none without a variable
abbrev pub candidates_for : Goal → Option Var → List Var
candidates_for g None = []
candidates_for g (Some v) = in_order (without_repeats var_eq (filter (λ u. is_universal g v.sort u) (goal_vars g)))

-- the universal variables of the first existential's sort in order of number
abbrev pub candidates : Goal → List Var
candidates g = candidates_for g (first_exist g)

-- a guess of the first existential, for each candidate
abbrev pub pick_rows : Node → List Row
pick_rows n = rows n (map ByPick (candidates n.goal))
