-- Premises of a node are well linked, and nodes again where instances in clauses fit.
use Rattle.std.proofs.Common.{◌≡◌, ◌∷◌, List, [], Option, Some, IfSome, subst}
use Rattle.std.specs.List.{All, AllByRecursion}
use Rattle.std.proofs.lemmas.Option.{IfSome_then}
use Rattle.std.proofs.lemmas.List.Elements.{All-from_recursion, All-weaker}
use Rattle.cyp_goal.proofs.LinksNormal.{IfSome-and_then, normal_linked}
use Rattle.cyp_goal.specs.Normal.{Renaming, normal}
use Rattle.cyp_heap.specs.Formed.{IsWellLinked}
use Rattle.cyp_heap.specs.Goals.{wide_node}
use Rattle.cyp_heap.specs.declared.goal.Node.{Node}
use Rattle.cyp_step.proofs.ChunkLists.{Every-map, IfSome-map}
use Rattle.cyp_step.proofs.EachRule.{raws_left}
use Rattle.cyp_step.proofs.Root.{fits_over, normal_node}
use Rattle.cyp_step.proofs.RawNodes.{IsLeft, by_option, by_test}
use Rattle.cyp_step.specs.Laws.{LeftNodesAreRaw, PremisesAreNodes, PremisesAreWellLinked}
use Rattle.cyp_step.specs.Nodes.{IsNode, IsOver, IsRaw}
use Rattle.cyp_step.specs.Step.{all_normal, nodes_of, premises, raws, renamed_premises}
use Rattle.cyp_step.specs.declared.rule.Rule.{Rule}

-- ---- normal forms of all

module _ (P : Node → Type 0) (Q : Renaming → Type 0) (to : (m : Node) → P m → IfSome (normal m) Q) where
  all_normal_kept : (ns : List Node) → AllByRecursion P ns → IfSome (all_normal ns) (AllByRecursion Q)
  all_normal_kept [] h = tt
  all_normal_kept (n ∷ ns) h =
      by_test (wide_node n) (λ e. rw (e, all_normal) tt)
      (λ e. rw (e, all_normal)
      (by_option (normal n) (λ d. rw d tt)
      (λ r d. rw d
      (IfSome-map (AllByRecursion Q) (AllByRecursion Q) (λ (rs : List Renaming). r ∷ rs) (λ rs k. (subst (λ (o : Option Renaming). IfSome o Q) d (to n h.0), k)) (all_normal ns)
      (all_normal_kept ns h.1)))))

module _ (n : Node) (w : IsNode n) (R : Node → Type 0) (to : (m : Node) → IsLeft n m → IfSome (normal m) (λ (s : Renaming). R s.node)) where
  premises_each : (r : Rule) → IfSome (premises n r) (AllByRecursion R)
  premises_each r =
      let Q : Renaming → Type 0 = λ s. R s.node in
      IfSome-map (AllByRecursion Q) (AllByRecursion R) nodes_of (Every-map R Q (λ (s : Renaming). s.node) (λ s k. k)) (renamed_premises n r)
      (IfSome-and_then (AllByRecursion (IsLeft n)) (AllByRecursion Q) all_normal (all_normal_kept (IsLeft n) Q to) (raws n r) (raws_left n w r))

-- ---- laws

each_of : (R : Node → Type 0) (o : Option (List Node)) (ms : List Node) → IfSome o (AllByRecursion R) → o ≡ Some ms → All R ms
each_of R o ms h e = All-from_recursion R ms (subst (λ (p : Option (List Node)). IfSome p (AllByRecursion R)) e h)

pub left_nodes_are_raw : LeftNodesAreRaw
left_nodes_are_raw n r ms k w e =
    All-weaker (IsLeft n) (IsOver n.preds IsRaw)
    (λ m l. record { same = l.same; fact = record { fits = fits_over n.preds m (record { same = l.same; sides = l.fits k }); linked = l.linked } })
    ms
    (each_of (IsLeft n) (raws n r) ms (raws_left n w r) e)

pub premises_are_well_linked : PremisesAreWellLinked
premises_are_well_linked n r ms w e =
    each_of IsWellLinked (premises n r) ms (premises_each n w IsWellLinked (λ m l. IfSome_then (normal m) (normal_linked m l.linked) (λ s k. k.fact)) r) e

pub premises_are_nodes : PremisesAreNodes
premises_are_nodes n r ms k w e =
    let R : Node → Type 0 = IsOver n.preds IsNode in
    each_of R (premises n r) ms (premises_each n w R (λ m l. normal_node n.preds m l.linked (record { same = l.same; sides = l.fits k })) r) e
