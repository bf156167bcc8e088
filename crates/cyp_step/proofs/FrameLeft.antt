-- Frame leaves the node with the goal that it changes.
use Rattle.std.proofs.Common.{◌≡◌, ◌∙◌, ◌||◌, ◌∷◌, ℕ, [], Bool, true, false, List, None, Option, Some, append-nil, option_map, refl, sym, ap}
use Rattle.std.specs.List.{list_all}
use Rattle.cyp_heap.specs.Chunks.{without}
use Rattle.cyp_heap.specs.declared.goal.Goal.{Goal}
use Rattle.cyp_heap.specs.declared.goal.Node.{Node}
use Rattle.cyp_step.proofs.FlatLeft.{with_goal}
use Rattle.cyp_step.specs.Changes.{add_post, add_pre, post_of, pre_of}
use Rattle.cyp_step.specs.FlatGoals.{after_frame, can_be_framed, framed_goal, goal_where, lits_at}
use Rattle.cyp_step.specs.FlatRules.{pair_at, raw_frame}
use Rattle.cyp_step.specs.Shown.{is_open, shown}
use Rattle.cyp_step.specs.Step.{raws}
use Rattle.cyp_step.specs.declared.rule.Rule.TheVariants.{ByFrame}
use Rattle.cyp_term.specs.declared.lit.Lit.{Lit}
use Rattle.cyp_unify.specs.Frames.{frame_pairs}
use Rattle.cyp_unify.specs.declared.found.Pair.{Pair}

module _ (n : Node) where
  framed : (i : ℕ) (b : Bool) (ls : List Lit)
      → elim b [ false ↦ None | true ↦ Some (add_post (add_pre n [] (without (pre_of n) i)) ls (without (post_of n) 0) ∷ []) ] ≡ with_goal n (goal_where b (framed_goal n.goal i ls))
  framed i false ls = refl
  framed i true ls = ap (λ (qs : List Lit). Some (record n { goal = record (framed_goal n.goal i ls) { pure_pre = qs } } ∷ [])) (append-nil n.goal.pure_pre)

  with_pair : (i : ℕ) (o : Option Pair) → elim o [
    | None ↦ None
    | Some p ↦ elim (list_all (λ l. is_open n.goal l || shown n.goal (l ∷ [])) p.lits) [
      | false ↦ None
      | true ↦ Some (add_post (add_pre n [] (without (pre_of n) i)) p.lits (without (post_of n) 0) ∷ [])
    ]
  ] ≡ with_goal n (after_frame n.goal i (option_map (λ (p : Pair). p.lits) o))
  with_pair i None = refl
  with_pair i (Some p) = framed i (can_be_framed n.goal p.lits) p.lits

  frame_is : (i : ℕ) → raw_frame n i ≡ with_goal n (after_frame n.goal i (lits_at i (frame_pairs n.goal)))
  frame_is i = with_pair i (pair_at i (frame_pairs n.goal))

  pub frame_done : (g : Goal) (i : ℕ) (o : Option Goal) → g ≡ n.goal → o ≡ after_frame g i (lits_at i (frame_pairs g)) → with_goal n o ≡ raws n (ByFrame i)
  frame_done g i o d e = ap (with_goal n) (e ∙ (λ j. after_frame (d j) i (lits_at i (frame_pairs (d j))))) ∙ sym (frame_is i)
