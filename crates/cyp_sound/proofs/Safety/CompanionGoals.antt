-- The goals of a node's companions, which stay through the normal form.
use Rattle.cyp_goal.proofs.LinksNormal.{IsKept, IsKeptWithin, normal_kept}
use Rattle.cyp_goal.specs.Normal.{Renaming, normal}
use Rattle.cyp_goal.specs.Pruning.{only_vars}
use Rattle.cyp_heap.specs.Goals.{apply_link}
use Rattle.cyp_heap.specs.declared.goal.Goal.{Goal}
use Rattle.cyp_heap.specs.declared.goal.Link.{Link}
use Rattle.cyp_heap.specs.declared.goal.Node.{Node}
use Rattle.std.proofs.Common.{◌≡◌, refl, ◌∙◌, List, [], ◌∷◌, map, Option, Some, subst}
use Rattle.std.specs.Prelude.{IfSome}

-- the goals of the companions in order
abbrev pub link_goals : List Link → List Goal
link_goals ls = map (λ (l : Link). l.goal) ls

same_goals : (f : Link → Link) → ((l : Link) → (f l).goal ≡ l.goal) → (ls : List Link) → link_goals (map f ls) ≡ link_goals ls
same_goals f e [] = refl
same_goals f e (l ∷ ls) = λ i. e l i ∷ same_goals f e ls i

module _ (gs : List Goal) where
  abbrev GoalsAre : Node → Type 0
  GoalsAre n = link_goals n.links ≡ gs

  goals_kept : IsKept GoalsAre
  goals_kept = record {
    applied = λ by k n h. same_goals (apply_link by) (λ l. refl) n.links ∙ h;
    beside = λ n g e f h. h;
    maps = λ n vs h. same_goals (λ (k : Link). record k { map = only_vars vs k.map }) (λ l. refl) n.links ∙ h;
  }

pub normal_goals : (n : Node) (r : Renaming) → normal n ≡ Some r → link_goals r.node.links ≡ link_goals n.links
normal_goals n r e =
    let gs : List Goal = link_goals n.links in
    let k : IsKeptWithin (GoalsAre gs) r = subst (λ (o : Option Renaming). IfSome o (IsKeptWithin (GoalsAre gs))) e (normal_kept (GoalsAre gs) (goals_kept gs) n refl) in
    k.fact
