-- What a rule leaves to do before the normal form: nodes over the same predicates, well linked, with instances that fit.
use Rattle.std.proofs.Common.{◌≡◌, ◌∷◌, Bool, [], None, Option, Some, IfSome, IsTrue, false, refl, true}
use Rattle.std.specs.List.{AllByRecursion}
use Rattle.cyp_goal.proofs.LinksFit.{FitsPost, FitsPre, SidesFit, sides_fit}
use Rattle.cyp_heap.proofs.PrefixTuples.{IsWellLinked-goal}
use Rattle.cyp_heap.specs.Formed.{IsWellLinked}
use Rattle.cyp_heap.specs.declared.goal.Goal.{Goal}
use Rattle.cyp_heap.specs.declared.goal.Node.{Node}
use Rattle.cyp_step.specs.Changes.{Raws}
use Rattle.cyp_step.specs.Nodes.{IsNode, clauses_fit}

-- a node that a rule leaves; its instances fit where those in clauses do
pub record IsLeft (n m : Node) : Type 0 where
  pub same : m.preds ≡ n.preds
  pub linked : IsWellLinked m
  pub fits : IsTrue (clauses_fit n.preds) → SidesFit n.preds m.goal

-- each node that is left, where the rule is allowed
abbrev pub AreLeft : Node → Raws → Type 0
AreLeft n r = IfSome r (AllByRecursion (IsLeft n))

-- ---- choices in rules

pub by_test : {P : Type 0} (b : Bool) → (b ≡ true → P) → (b ≡ false → P) → P
by_test true h k = h refl
by_test false h k = k refl

pub by_option : {A P : Type 0} (o : Option A) → (o ≡ None → P) → ((a : A) → o ≡ Some a → P) → P
by_option None h k = h refl
by_option (Some a) h k = k a refl

-- ---- rules that leave the companions as they are

module _ (n : Node) (w : IsNode n) where
  pub its_sides : SidesFit n.preds n.goal
  its_sides = sides_fit n.preds n.goal w.raw.fits

  pub left_goal : (g : Goal) → (IsTrue (clauses_fit n.preds) → SidesFit n.preds g) → IsLeft n (record n { goal = g })
  left_goal g s = record { same = refl; linked = IsWellLinked-goal n g w.raw.linked; fits = s }

  -- one node with another goal
  pub left_one : (g : Goal) → AllByRecursion (FitsPre n.preds) g.pre.chunks → AllByRecursion (FitsPost n.preds) g.post.chunks → AreLeft n (Some (record n { goal = g } ∷ []))
  left_one g a b = (left_goal g (λ e. record { pre = a; post = b }), tt)
