-- The normal form of a goal with its companions.
use Rattle.std.specs.Prelude.{List, None, Option, Some, cond, length}
use Rattle.std.specs.Option.{option_and_then}
use Rattle.cyp_goal.specs.Numbering.{renumber}
use Rattle.cyp_goal.specs.Pruning.{prune}
use Rattle.cyp_goal.specs.Solving.{solve_post, solve_pre}
use Rattle.cyp_goal.specs.Tidying.{tidy_lits, with_addresses}
use Rattle.cyp_heap.specs.Limits.{is_within_limits}
use Rattle.cyp_heap.specs.declared.goal.Node.{Node}
use Rattle.cyp_term.specs.declared.term.Var.{Var}

-- a node, and what each of its program variables was called before it was numbered anew
pub record Renaming : Type 0 where
  pub node : Node
  pub old : List Var

-- both pure parts without plain truths and repeats, and that the addresses of the pre are positive
abbrev pub tidy_node : Node → Node
tidy_node n = record n { goal = with_addresses (record n.goal { pure_pre = tidy_lits n.goal.pure_pre; pure_post = tidy_lits n.goal.pure_post }) }

-- the equations of the pre and then of the post solved, or none where an offset passes 2 ^ 32
abbrev pub solve : Node → Option Node
solve n = option_and_then (λ (m : Node). solve_post (length m.goal.pure_post) m) (solve_pre (length n.goal.pure_pre) n)

-- the node numbered anew, with the names its program variables had, or none where a limit is passed
abbrev pub keep_limits : Node → Option Renaming
keep_limits n = let m : Node = renumber n in cond (is_within_limits m) (Some (record { node = m; old = n.goal.program })) None

-- the normal form, or none where a limit of a node or an offset is passed
abbrev pub normal : Node → Option Renaming
normal n = option_and_then (λ m. keep_limits (prune (tidy_node m))) (solve n)
