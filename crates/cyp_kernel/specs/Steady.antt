-- What the rules ask of a node.
use Rattle.std.specs.Prelude.{IsTrue, Some, false, not, slice_get, ◌++◌, ◌≡◌, ℕ}
use Rattle.std.specs.List.{list_all}
use Rattle.cyp_goal.specs.Raw.{is_sorted}
use Rattle.cyp_heap.specs.Chunks.{chunks_vars}
use Rattle.cyp_heap.specs.Formed.{all_differ, insts_fit}
use Rattle.cyp_heap.specs.Goals.{image_vars}
use Rattle.cyp_heap.specs.declared.goal.Link.{Link}
use Rattle.cyp_heap.specs.declared.goal.Node.{Node}
use Rattle.cyp_term.specs.Terms.{lits_vars, sort_eq, var_in}
use Rattle.cyp_term.specs.declared.term.Sort.TheVariants.{Int}
use Rattle.cyp_term.specs.declared.term.Var.{Var}

-- what the soundness of the rules asks of a node, and what each node of a derivation keeps
pub record IsSteady (n : Node) : Type 0 where
  -- set variables stand in the places of sets alone
  pub sorted : IsTrue (is_sorted n)
  -- each instance fits its predicate; those of the precondition have a cardinality, those of the postcondition have none
  pub fits : IsTrue (insts_fit n.preds n.goal)
  -- the program variables are integers and differ, and so do the existentials
  pub program_int : IsTrue (list_all (λ (v : Var). sort_eq v.sort Int) n.goal.program)
  pub program_differs : IsTrue (all_differ n.goal.program)
  pub exist_differs : IsTrue (all_differ n.goal.exist)
  -- no existential is a program variable, or occurs in the precondition or in an image of a companion's map
  pub exist_apart : IsTrue (list_all (λ v. not (var_in v (n.goal.program ++ lits_vars n.goal.pure_pre ++ chunks_vars n.goal.pre.chunks))) n.goal.exist)
  pub exist_images : (k : Link) (i : ℕ) (v : Var) → slice_get n.links i ≡ Some k → IsTrue (var_in v (image_vars k.map)) → var_in v n.goal.exist ≡ false
