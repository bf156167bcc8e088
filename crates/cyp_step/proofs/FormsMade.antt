-- What a rule leaves to do is well linked, and its normal forms are made one by one.
use Rattle.std.proofs.Common.{◌≡◌, ◌∙◌, ◌++◌, List, [], ◌∷◌, Bool, true, false, None, Option, Some, IfSome, append-nil, append_assoc, option_map, refl, subst, sym, ap}
use Rattle.std.specs.List.{All, AllByRecursion}
use Rattle.std.proofs.lemmas.List.Elements.{All-from_recursion, All-weaker}
use Rattle.cyp_goal.specs.Normal.{Renaming, normal}
use Rattle.cyp_heap.specs.Formed.{IsWellLinked}
use Rattle.cyp_heap.specs.Goals.{wide_node}
use Rattle.cyp_heap.specs.Keeps.{KeepsNode}
use Rattle.cyp_heap.specs.declared.goal.Node.{Node}
use Rattle.cyp_step.proofs.EachRule.{raws_left}
use Rattle.cyp_step.proofs.RawNodes.{IsLeft}
use Rattle.cyp_step.specs.Changes.{Raws}
use Rattle.cyp_step.specs.Nodes.{IsNode}
use Rattle.cyp_step.specs.Step.{all_normal, raws}
use Rattle.cyp_step.specs.declared.rule.Rule.{Rule}

pub linked_raws : (n : Node) (r : Rule) (ms : List Node) → KeepsNode n → Some ms ≡ raws n r → All IsWellLinked ms
linked_raws n r ms k e =
    let w : IsNode n = record { within = k.within; raw = record { fits = k.fits; linked = k.linked } } in
    All-weaker (IsLeft n) IsWellLinked (λ m l. l.linked) ms
    (All-from_recursion (IsLeft n) ms (subst (λ (o : Raws). IfSome o (AllByRecursion (IsLeft n))) (sym e) (raws_left n w r)))

-- the forms so far, before those of the rest
abbrev pub before : List Renaming → Option (List Renaming) → Option (List Renaming)
before made o = option_map (λ (rs : List Renaming). made ++ rs) o

pushed : (made : List Renaming) (s : Renaming) (o : Option (List Renaming)) → before (made ++ s ∷ []) o ≡ before made (option_map (λ (rs : List Renaming). s ∷ rs) o)
pushed made s None = refl
pushed made s (Some rs) = ap Some (append_assoc made (s ∷ []) rs)

module _ (n : Node) (ns : List Node) (made : List Renaming) (r : Option (List Renaming)) (narrow : wide_node n ≡ false) (h : before made (all_normal (n ∷ ns)) ≡ r) where
  -- with the node's own form, where it is narrow
  with_form : Option Renaming → Option (List Renaming)
  with_form None = None
  with_form (Some s) = option_map (λ (rs : List Renaming). s ∷ rs) (all_normal ns)

  tested : Bool → Option (List Renaming)
  tested true = None
  tested false = with_form (normal n)

  narrowed : (o : Option Renaming) → o ≡ normal n → before made (with_form o) ≡ r
  unfolding tested with_form
  narrowed o e = ap (λ p. before made (with_form p)) e ∙ sym (ap (λ b. before made (tested b)) narrow) ∙ h

  pub form_made : (s : Renaming) (new : List Renaming) → Some s ≡ normal n → new ≡ made ++ s ∷ [] → before new (all_normal ns) ≡ r
  unfolding with_form
  form_made s new e f = ap (λ rs. before rs (all_normal ns)) f ∙ pushed made s (all_normal ns) ∙ narrowed (Some s) e

  pub form_missing : None ≡ normal n → None ≡ r
  unfolding with_form
  form_missing e = narrowed None e

pub none_left : (made : List Renaming) (r : Option (List Renaming)) → before made (all_normal []) ≡ r → Some made ≡ r
none_left made r h = sym (ap Some (append-nil made)) ∙ h
