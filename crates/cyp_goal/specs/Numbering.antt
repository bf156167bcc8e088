-- Normal form: new numbers of variables.
use Rattle.std.specs.Prelude.{[], List, cond, false, filter, map, not, suc, true, ℕ, ◌∷◌}
use Rattle.cyp_heap.specs.Goals.{apply_node, node_vars}
use Rattle.cyp_heap.specs.declared.goal.Node.{Node}
use Rattle.cyp_term.specs.Terms.{is_set_var, set_var, sort_eq, var_eq, var_term}
use Rattle.cyp_term.specs.declared.subst.Subst.{Subst}
use Rattle.cyp_term.specs.declared.term.Var.{Var}

-- how many of the same sort stand before the variable
abbrev pub rank_from : ℕ → List Var → Var → ℕ
rank_from k [] v = k
rank_from k (w ∷ ws) v = elim (var_eq w v) [ true ↦ k | false ↦ rank_from (cond (sort_eq w.sort v.sort) (suc k) k) ws v ]

-- the place of the variable among those of its sort in the list, counted from 0
abbrev pub rank_in : List Var → Var → ℕ
rank_in vs v = rank_from 0 vs v

-- the variable of the same sort that is numbered by its place among those of this sort
abbrev pub new_name : List Var → Var → Var
new_name vs v = record { sort = v.sort; number = rank_in vs v }

-- each variable of the list to its new number
abbrev pub numbering : List Var → Subst
numbering vs = record {
  ints = map (λ v. record { var = v; to = var_term (new_name vs v) }) (filter (λ v. not (is_set_var v)) vs);
  sets = map (λ v. record { var = v; to = set_var (new_name vs v) }) (filter is_set_var vs);
}

-- the variables of each sort numbered from 0 on, in order of first occurrence in the node
abbrev pub renumber : Node → Node
renumber n =
    let vs : List Var = node_vars n in
    let m : Node = apply_node (numbering vs) n in
    record m { goal = record m.goal { program = map (new_name vs) n.goal.program; exist = map (new_name vs) n.goal.exist } }
