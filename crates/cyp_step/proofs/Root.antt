-- A normal form of a well linked node with instances that fit is a node; so is the root.
use Rattle.std.proofs.Common.{◌≡◌, [], None, Option, Some, IfSome, IsTrue, refl, subst, sym}
use Rattle.std.proofs.lemmas.Option.{IfSome_then}
use Rattle.cyp_goal.proofs.LinksFit.{insts_fit_from, sides_fit}
use Rattle.cyp_goal.proofs.LinksNormal.{FitsOver, IsKeptWithin, normal_bare, normal_fits, normal_linked}
use Rattle.cyp_goal.specs.Normal.{Renaming, normal}
use Rattle.cyp_heap.proofs.PrefixTuples.{IsWellLinked-none}
use Rattle.cyp_heap.specs.Formed.{IsWellLinked, insts_fit}
use Rattle.cyp_heap.specs.declared.goal.Node.{Node}
use Rattle.cyp_heap.specs.declared.pred.Preds.{Preds}
use Rattle.cyp_step.specs.Laws.{RootIsNode, RootIsWellLinked}
use Rattle.cyp_step.specs.Nodes.{IsNode, IsOver}

-- the node's instances fit its own predicates, which are these
pub fits_over : (preds : Preds) (m : Node) → FitsOver preds m → IsTrue (insts_fit m.preds m.goal)
fits_over preds m f = subst (λ (p : Preds). IsTrue (insts_fit p m.goal)) (sym f.same) (insts_fit_from preds m.goal f.sides)

IfSome_both : {A : Type 0} (P Q : A → Type 0) (o : Option A) → IfSome o P → IfSome o Q → IfSome o (λ x. P x × Q x)
IfSome_both P Q None h k = tt
IfSome_both P Q (Some x) h k = (h, k)

-- a normal form over the same predicates is a node
pub normal_node : (preds : Preds) (m : Node) → IsWellLinked m → FitsOver preds m → IfSome (normal m) (λ (s : Renaming). IsOver preds IsNode s.node)
normal_node preds m linked fits =
    let P : Renaming → Type 0 = IsKeptWithin IsWellLinked in
    let Q : Renaming → Type 0 = IsKeptWithin (FitsOver preds) in
    IfSome_then (normal m) (IfSome_both P Q (normal m) (normal_linked m linked) (normal_fits preds m fits)) (λ s k. record {
      same = k.1.fact.same;
      fact = record { within = k.0.within; raw = record { fits = fits_over preds s.node k.1.fact; linked = k.0.fact } };
    })

-- ---- the root

pub root_is_well_linked : RootIsWellLinked
root_is_well_linked preds g r e =
    let m : Node = record { preds = preds; goal = g; links = [] } in (
      (subst (λ (o : Option Renaming). IfSome o (IsKeptWithin (λ (s : Node). s.links ≡ []))) e (normal_bare m refl)).fact,
      (subst (λ (o : Option Renaming). IfSome o (IsKeptWithin IsWellLinked)) e (normal_linked m (IsWellLinked-none preds g))).fact,
    )

pub root_is_node : RootIsNode
root_is_node preds g r fits e =
    subst (λ (o : Option Renaming). IfSome o (λ (s : Renaming). IsOver preds IsNode s.node)) e
    (normal_node preds (record { preds = preds; goal = g; links = [] }) (IsWellLinked-none preds g) (record { same = refl; sides = sides_fit preds g fits }))
