-- The predicates of a text without faults of names whose predicates have no faults of limits, whatever its procedure.
use Rattle.std.proofs.Common.{[], ◌≡◌, ◌∙◌, ◌++◌, List, append-nil, flat_map, map}
use Rattle.cyp_heap.specs.PredsFormed.{IsFormedPreds}
use Rattle.cyp_lex.specs.declared.fault.Fault.{Fault}
use Rattle.cyp_spec.specs.LimitParts.{preds_part}
use Rattle.cyp_names.proofs.NoFaults.{none_both}
use Rattle.cyp_formed.proofs.FormedPreds.{formed_preds}
use Rattle.cyp_formed.specs.LimitFaults.{limit_faults}
use Rattle.cyp_names.specs.NameFaults.{name_faults, pred_faults, proc_faults, repeats}
use Rattle.cyp_names.specs.Specifications.{read_preds}
use Rattle.cyp_text.specs.declared.tree.BodyTree.{BodyTree}
use Rattle.cyp_text.specs.declared.tree.PredTree.{PredTree}
use Rattle.cyp_text.specs.declared.tree.PureTree.TheVariants.{NoItems}
use Rattle.cyp_text.specs.declared.tree.TextTree.{TextTree}

-- a body that says nothing
abbrev pub no_body : BodyTree
no_body = record { pure = NoItems; chunks = [] }

-- the predicates with a procedure that says nothing
abbrev pub bare : TextTree → TextTree
bare t = record { preds = t.preds; name = t.name; params = []; pre = no_body; post = no_body }

module _ (t : TextTree) where
  abbrev front : List Fault
  front = repeats [] (map (λ (q : PredTree). q.name) t.preds) ++ flat_map (pred_faults t.preds) t.preds

  pub bare_right : name_faults t ≡ [] → name_faults (bare t) ≡ []
  bare_right e = append-nil front ∙ (none_both front (proc_faults t) e).0

  pub bare_within : preds_part t.preds ≡ [] → limit_faults (bare t) ≡ []
  bare_within e = append-nil (preds_part t.preds ++ [] ++ []) ∙ append-nil (preds_part t.preds ++ []) ∙ append-nil (preds_part t.preds) ∙ e

  pub preds_formed : name_faults t ≡ [] → preds_part t.preds ≡ [] → IsFormedPreds (read_preds t.preds)
  preds_formed right none = formed_preds (bare t) (bare_right right) (bare_within none)
