-- What a rule leaves to do in code, against the premises of the rule.
use Rattle.std.proofs.Common.{◌≡◌, ◌∙◌, ◌∷◌, ℕ, [], Err, IfOk, List, None, Ok, Result, Some, ap, refl, subst, sym, true}
use Rattle.std.specs.List.{list_any}
use Rattle.std.specs.Option.{option_and_then}
use Rattle.std.proofs.lemmas.Bool.{false≢true}
use Rattle.cyp_goal.specs.Normal.{normal}
use Rattle.cyp_heap.specs.Goals.{wide_node}
use Rattle.cyp_heap.specs.declared.goal.Node.{Node}
use Rattle.cyp_step.proofs.RawNodes.{by_option, by_test}
use Rattle.cyp_step.specs.Changes.{Raws}
use Rattle.cyp_step.specs.Leaving.{LeavesRaws}
use Rattle.cyp_step.specs.RuleKinds.{IsFlatRule}
use Rattle.cyp_step.specs.Step.{all_normal, raws, renamed_premises}
use Rattle.cyp_step.specs.declared.rule.CallBy.{CallBy}
use Rattle.cyp_step.specs.declared.rule.Rule.{Rule}
use Rattle.cyp_step.specs.declared.rule.Rule.TheVariants.{ByAlloc, ByCall, ByClose, ByEmp, ByFrame, ByFree, ByInconsistent, ByOpen, ByPick, ByRead, ByWrite}

-- some raw node is wide, and so there are no normal forms of all
wide_among : (ms : List Node) → list_any (λ (m : Node). wide_node m) ms ≡ true → all_normal ms ≡ None
wide_among [] e = absurd (false≢true e)
wide_among (m ∷ ms) e =
    by_test (wide_node m) (λ w. rw (w, all_normal) refl)
    (λ w. let rest : list_any (λ (k : Node). wide_node k) ms ≡ true = rw w at e in
    rw (w, all_normal) (by_option (normal m) (λ d. rw d refl) (λ s d. rw (d, wide_among ms rest) refl)))

module _ (n : Node) (r : Rule) where
  pub nothing_left : raws n r ≡ None → renamed_premises n r ≡ None
  nothing_left e = ap (option_and_then all_normal) e

  pub wide_left : (ms : List Node) → raws n r ≡ Some ms → list_any (λ (m : Node). wide_node m) ms ≡ true → renamed_premises n r ≡ None
  wide_left ms e w = ap (option_and_then all_normal) e ∙ wide_among ms w

  -- what is left exactly is left in code
  pub left_exactly : (o : Raws) → o ≡ raws n r → LeavesRaws n r o
  left_exactly None e = nothing_left (sym e)
  left_exactly (Some ms) e = sym e

  pub leaves_as : (o : Raws) (p : Raws) → o ≡ p → LeavesRaws n r o → LeavesRaws n r p
  leaves_as o p e h = subst (λ q. LeavesRaws n r q) e h

  -- the premises are the normal forms of what is left
  pub forms_of : (o : Raws) (ms : List Node) → o ≡ Some ms → LeavesRaws n r o → all_normal ms ≡ renamed_premises n r
  forms_of o ms e h = sym (ap (option_and_then all_normal) (subst (λ q. LeavesRaws n r q) e h))

  pub raws_are : (o : Raws) (ms : List Node) → o ≡ Some ms → LeavesRaws n r o → raws n r ≡ Some ms
  raws_are o ms e h = subst (λ q. LeavesRaws n r q) e h

  pub none_are : (o : Raws) → o ≡ None → LeavesRaws n r o → None ≡ renamed_premises n r
  none_are o e h = sym (subst (λ q. LeavesRaws n r q) e h)

  -- the same of a call's answer
  pub each_left : {E : Type 0} (x : Result Raws E) → IfOk x (λ o. o ≡ raws n r) → IfOk x (λ o. LeavesRaws n r o)
  each_left (Ok o) h = left_exactly o h
  each_left (Err e) h = tt

-- a rule that neither calls nor unfolds
pub flat_otherwise : (r : Rule) → ((c : CallBy) → r ≡ ByCall c → ⊥) → ((i : ℕ) → r ≡ ByOpen i → ⊥) → ((i : ℕ) → r ≡ ByClose i → ⊥) → IsFlatRule r
flat_otherwise (ByCall c) f g h = f c refl
flat_otherwise (ByOpen i) f g h = g i refl
flat_otherwise (ByClose i) f g h = h i refl
flat_otherwise ByInconsistent f g h = tt
flat_otherwise ByEmp f g h = tt
flat_otherwise (ByRead i) f g h = tt
flat_otherwise (ByFrame i) f g h = tt
flat_otherwise (ByWrite i) f g h = tt
flat_otherwise (ByFree i) f g h = tt
flat_otherwise ByAlloc f g h = tt
flat_otherwise (ByPick u) f g h = tt
