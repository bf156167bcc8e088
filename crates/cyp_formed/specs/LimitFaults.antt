-- The faults of predicates and limits in a specification whose names and sorts are right.
use Rattle.std.specs.Prelude.{[], Bool, List, cond, flat_map, is_some, slice_get, ◌&&◌, ◌++◌}
use Rattle.cyp_goal.specs.Normal.{normal}
use Rattle.cyp_heap.specs.Limits.{is_goal_within}
use Rattle.cyp_heap.specs.declared.goal.Node.{Node}
use Rattle.cyp_lex.specs.declared.fault.Fault.{Fault}
use Rattle.cyp_lex.specs.declared.fault.FaultKind.TheVariants.{TooLarge}
use Rattle.cyp_names.specs.NameFaults.{fault_at}
use Rattle.cyp_names.specs.Specifications.{Specification, read_tree}
use Rattle.cyp_text.specs.declared.tree.TextTree.{TextTree}
use Rattle.cyp_names.specs.PredFaults.{extra_pred_fault, pred_limit_faults, size_faults}

-- the goal of a specification as a node, without companions
abbrev pub root_of : Specification → Node
root_of s = record { preds = s.preds; goal = s.goal; links = [] }

-- the goal is within the limits as it is written, and in its normal form
abbrev pub is_root_within : Specification → Bool
is_root_within s = is_goal_within s.goal && is_some (normal (root_of s))

-- all faults of predicates and limits
abbrev pub limit_faults : TextTree → List Fault
limit_faults t =
    flat_map (pred_limit_faults t.preds) t.preds
    ++ extra_pred_fault (slice_get t.preds 16)
    ++ size_faults t.pre ++ size_faults t.post
    ++ cond (is_root_within (read_tree t)) [] (fault_at TooLarge t.name.place)
