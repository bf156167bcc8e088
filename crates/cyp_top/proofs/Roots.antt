-- A specification has a root, and it is the normal form of its goal.
use Rattle.std.proofs.Common.{◌≡◌, ◌∙◌, IsTrue, None, Some, ap, false, is_some, subst, sym}
use Rattle.std.proofs.lemmas.Bool.{and_from, and_parts, false≢true}
use Rattle.cyp_goal.specs.Normal.{Renaming, normal}
use Rattle.cyp_heap.proofs.PrefixTuples.{IsWellLinked-none}
use Rattle.cyp_heap.specs.Formed.{IsFormed, IsWellLinked, insts_fit}
use Rattle.cyp_heap.specs.Limits.{is_goal_within}
use Rattle.cyp_heap.specs.declared.goal.Goal.{Goal}
use Rattle.cyp_heap.specs.declared.goal.Node.{Node}
use Rattle.cyp_heap.specs.declared.pred.Preds.{Preds}
use Rattle.cyp_spec.specs.KeepsSpec.{KeepsSpec}
use Rattle.cyp_names.specs.Specifications.{Specification}
use Rattle.cyp_top.specs.Roots.{node_or, root_of, spec_node}

-- the instances of a goal that is formed fit
fits_formed : (preds : Preds) (g : Goal) → IsFormed preds g → IsTrue (insts_fit preds g)
fits_formed preds g f = and_from _ _ (and_from _ _ f.instances_fit f.pre_cards) f.post_cards

module _ (s : Specification) where
  -- so do those of a copy of its goal over a copy of its predicates
  pub fits_copy : KeepsSpec s → (preds : Preds) (g : Goal) → preds ≡ s.preds → g ≡ s.goal → IsTrue (insts_fit preds g)
  fits_copy k preds g p e = (λ i. insts_fit (p i) (e i)) ∙ fits_formed s.preds s.goal k.formed

  -- a node without companions is well linked
  pub linked_copy : (n : Node) → n ≡ spec_node s → IsWellLinked n
  linked_copy n e = subst IsWellLinked (sym e) (IsWellLinked-none s.preds s.goal)

  pub has_normal : KeepsSpec s → is_some (normal (spec_node s)) ≡ false → ⊥
  has_normal k e = false≢true (sym e ∙ (and_parts (is_goal_within s.goal) (is_some (normal (spec_node s))) k.within).1)

  -- there is a normal form
  pub no_failure : KeepsSpec s → (n : Node) → n ≡ spec_node s → normal n ≡ None → ⊥
  no_failure k n e none = has_normal k (ap is_some (ap normal (sym e) ∙ none))

  -- which is the root
  pub root_is : (n : Node) (r : Renaming) → n ≡ spec_node s → normal n ≡ Some r → r.node ≡ root_of s
  root_is n r e is = sym (ap (node_or (spec_node s)) (ap normal (sym e) ∙ is))
