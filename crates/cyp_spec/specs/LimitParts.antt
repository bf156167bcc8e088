-- The faults of limits in two parts: those of the predicates, which stand first, and that of the goal.
use Rattle.std.specs.Prelude.{[], List, cond, flat_map, slice_get, ◌++◌}
use Rattle.cyp_lex.specs.declared.fault.Fault.{Fault}
use Rattle.cyp_lex.specs.declared.fault.FaultKind.TheVariants.{TooLarge}
use Rattle.cyp_formed.specs.LimitFaults.{is_root_within}
use Rattle.cyp_names.specs.PredFaults.{extra_pred_fault, pred_limit_faults}
use Rattle.cyp_names.specs.NameFaults.{fault_at}
use Rattle.cyp_names.specs.Specifications.{read_tree}
use Rattle.cyp_text.specs.declared.tree.PredTree.{PredTree}
use Rattle.cyp_text.specs.declared.tree.TextTree.{TextTree}

-- those of all predicates, and that there are too many
abbrev pub preds_part : List PredTree → List Fault
preds_part qs = flat_map (pred_limit_faults qs) qs ++ extra_pred_fault (slice_get qs 16)

-- a limit that the goal passes as it is written or in its normal form
abbrev pub root_part : TextTree → List Fault
root_part t = cond (is_root_within (read_tree t)) [] (fault_at TooLarge t.name.place)
