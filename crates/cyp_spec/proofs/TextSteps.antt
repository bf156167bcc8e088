-- What the code of a text's limits knows at each step.
use Rattle.std.proofs.Common.{[], ◌≡◌, ◌∙◌, ◌++◌, List, Option, Some, None, true, flat_map, map, ap, subst, sym}
use Rattle.std.specs.List.{All, list_all}
use Rattle.cyp_lex.specs.declared.fault.Fault.{Fault}
use Rattle.cyp_spec.proofs.LeastFaults.{none_least}
use Rattle.cyp_spec.proofs.PredLeast.{preds_decide, procedure_decides}
use Rattle.cyp_spec.specs.InOrder.{IsInOrder, is_name_first}
use Rattle.cyp_names.specs.LeastFaults.{lesser_of}
use Rattle.cyp_spec.specs.LimitParts.{preds_part, root_part}
use Rattle.cyp_spec.specs.Small.{PredSmall, TextSmall}
use Rattle.cyp_names.proofs.NoFaults.{none_both}
use Rattle.cyp_formed.specs.LimitFaults.{limit_faults}
use Rattle.cyp_names.specs.PredFaults.{size_faults}
use Rattle.cyp_names.specs.NameFaults.{name_faults, pred_faults, proc_faults, repeats}
use Rattle.cyp_names.specs.FaultOrder.{least_fault}
use Rattle.cyp_text.specs.declared.tree.PredTree.{PredTree}
use Rattle.cyp_text.specs.declared.tree.TextTree.{TextTree}

module _ (t : TextTree) (qs : List PredTree) (is : qs ≡ t.preds) where
  pub right_at : name_faults t ≡ [] → flat_map (pred_faults qs) qs ≡ []
  right_at e =
      subst (λ (ps : List PredTree). flat_map (pred_faults ps) ps ≡ []) (sym is)
      (none_both (repeats [] (map (λ (q : PredTree). q.name) t.preds)) (flat_map (pred_faults t.preds) t.preds)
      (none_both (repeats [] (map (λ (q : PredTree). q.name) t.preds) ++ flat_map (pred_faults t.preds) t.preds) (proc_faults t) e).0).1

  pub small_at : TextSmall t → All PredSmall qs
  small_at small = subst (λ (ps : List PredTree). All PredSmall ps) (sym is) small.preds

  pub order_at : IsInOrder t → list_all is_name_first qs ≡ true
  order_at order = subst (λ (ps : List PredTree). list_all is_name_first ps ≡ true) (sym is) order.names_first

  front_is : (o : Option Fault) → o ≡ least_fault (preds_part qs) → least_fault (preds_part t.preds) ≡ o
  front_is o e = ap (λ (ps : List PredTree). least_fault (preds_part ps)) (sym is) ∙ sym e

  -- a fault of the predicates is the answer
  pub found_at : IsInOrder t → (o : Option Fault) → o ≡ least_fault (preds_part qs) → (f : Fault) → o ≡ Some f → Some f ≡ least_fault (limit_faults t)
  found_at order o e f h = preds_decide t order f (front_is o e ∙ h)

  -- else they have none
  pub none_at : (o : Option Fault) → o ≡ least_fault (preds_part qs) → o ≡ None → preds_part t.preds ≡ []
  none_at o e h = none_least (preds_part t.preds) (front_is o e ∙ h)

-- the least fault of the procedure
pub procedure_at : (t : TextTree) → IsInOrder t → preds_part t.preds ≡ [] → (a b c s x : Option Fault) → a ≡ least_fault (size_faults t.pre) → b ≡ least_fault (size_faults t.post)
    → c ≡ least_fault (root_part t) → s ≡ lesser_of a b → x ≡ lesser_of s c → x ≡ least_fault (limit_faults t)
procedure_at t order e a b c s x ea eb ec es ex =
    ex ∙ ap (λ (o : Option Fault). lesser_of o c) es ∙ procedure_decides t order (ap least_fault e) a b c ea eb ec
