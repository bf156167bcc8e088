-- Short forms for worked searches of the whole move table.
use Rattle.std.proofs.Common.{ℕ, zero, suc, List, [], ◌∷◌, map, Option, Some, None}
use Rattle.cyp_goal.specs.Normal.{Renaming, normal}
use Rattle.cyp_heap.specs.declared.goal.Node.{Node}
use Rattle.cyp_moves.specs.Moves.{is_any, moves_of_kinds, weight}
use Rattle.cyp_search.specs.Reports.{PlainReport, report}
use Rattle.cyp_space.specs.Alts.{AltOf}
use Rattle.cyp_step.specs.declared.rule.Rule.{Rule}
use Rattle.cyp_step.specs.declared.rule.Rule.TheVariants.{ByCall}
use Rattle.cyp_top.specs.Lines.{Output, verdict_output}
use Rattle.cyp_tree.specs.Growing.{expand_next}
use Rattle.cyp_tree.specs.Live.{Waiting, next_leaf}
use Rattle.cyp_tree.specs.Statuses.{status}
use Rattle.cyp_tree.specs.Trees.{Leaf, Moving, Tree}
use Rattle.cyp_tree.specs.declared.mark.Mark.TheVariants.{Failed, Solved, Undecided}

-- the normal form, or the goal as it is where a limit is passed
abbrev pub root_or : Node → Option Renaming → Node
root_or n None = n
root_or n (Some r) = r.node

abbrev pub root : Node → Node
root n = root_or n (normal n)

-- every kind of row, and two unfoldings
abbrev pub goals : Moving Rule Node
goals = record { moves = moves_of_kinds is_any 2; weight = weight }

-- what is written for a procedure of this name, with the numbers of expansions, of nodes and of levels
abbrev pub told : List ℕ → PlainReport Rule Node → Output × ℕ × ℕ × ℕ
told name r = (verdict_output name r.verdict, r.expansions, r.nodes, r.depth)

abbrev pub run : ℕ → List ℕ → Node → Output × ℕ × ℕ × ℕ
run budget name n = told name (report goals budget 500000 (root n))

-- ---- the rules at each node that is expanded, in order of expansion

abbrev pub rules_at : Option (Waiting Node) → List Rule
rules_at None = []
rules_at (Some w) = map (λ (a : AltOf Rule Node). a.rule) (moves_of_kinds is_any 2 w.node)

abbrev pub trace_from : ℕ → Tree Rule Node → List (List Rule)
trace_from zero t = []
trace_from (suc k) t = elim (status t) [
  | Undecided ↦ rules_at (next_leaf weight t) ∷ trace_from k (expand_next goals t)
  | Solved ↦ []
  | Failed ↦ []
]

-- of the first expansions, at most this many
abbrev pub trace : ℕ → Node → List (List Rule)
trace k n = trace_from k (Leaf 0 (root n))

-- the first companion is called by this pairing
abbrev pub call : List ℕ → Rule
call pairs = ByCall (record { link = 0; pairs = pairs })
