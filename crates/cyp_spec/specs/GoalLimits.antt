-- The limits of a goal as it is written, when its variables and element terms are known.
use Rattle.std.specs.Prelude.{Bool, List, filter, length, nat_le, ◌&&◌}
use Rattle.cyp_heap.specs.declared.goal.Goal.{Goal}
use Rattle.cyp_term.specs.Terms.{is_set_var, sort_eq}
use Rattle.cyp_term.specs.declared.term.Sort.TheVariants.{Int}
use Rattle.cyp_term.specs.declared.term.Var.{Var}

-- the goal is within the limits, where these are its different variables, and it is told whether its element terms are few
abbrev pub is_goal_with : Goal → List Var → Bool → Bool
is_goal_with g vs few =
    nat_le (length g.pre.chunks) 16 && nat_le (length g.post.chunks) 16
    && nat_le (length g.pure_pre) 40 && nat_le (length g.pure_post) 40
    && nat_le (length g.program) 12
    && nat_le (length (filter (λ (v : Var). sort_eq v.sort Int) vs)) 64
    && nat_le (length (filter is_set_var vs)) 32
    && few
