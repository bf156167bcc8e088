-- Alloc leaves the node with the goal that it changes.
use Rattle.std.proofs.Common.{◌≡◌, ◌∙◌, ◌∷◌, [], List, None, Option, Some, append-nil, refl, slice_get, sym, ap}
use Rattle.cyp_heap.specs.declared.chunk.BlockAt.{BlockAt}
use Rattle.cyp_heap.specs.declared.chunk.Chunk.{Chunk}
use Rattle.cyp_heap.specs.declared.chunk.Chunk.TheVariants.{Block, Cell, Inst}
use Rattle.cyp_heap.specs.declared.goal.Goal.{Goal}
use Rattle.cyp_heap.specs.declared.goal.Node.{Node}
use Rattle.cyp_step.proofs.FlatLeft.{under, with_goal}
use Rattle.cyp_step.specs.Changes.{new_int, post_of, where_true}
use Rattle.cyp_step.specs.FlatGoals.{after_alloc, allocated_goal, block_in}
use Rattle.cyp_step.specs.FlatRules.{is_bare_open, raw_alloc}
use Rattle.cyp_step.specs.Step.{raws}
use Rattle.cyp_step.specs.declared.rule.Rule.TheVariants.{ByAlloc}
use Rattle.cyp_term.specs.declared.lit.Lit.{Lit}
use Rattle.cyp_term.specs.declared.term.Var.{Var}

module _ (n : Node) where
  allocated : (f : BlockAt) → raw_alloc n (Some (Block f)) ≡ with_goal n (after_alloc n.goal (new_int n) (Some f))
  allocated f =
      let h : Goal = allocated_goal n.goal (new_int n) f in
      ap (λ (ls : List Lit). where_true (is_bare_open n.goal f.at) (Some (record n { goal = record h { pure_pre = ls } } ∷ []))) (append-nil n.goal.pure_pre)
      ∙ under n (is_bare_open n.goal f.at) h

  alloc_is : (o : Option Chunk) → raw_alloc n o ≡ with_goal n (after_alloc n.goal (new_int n) (block_in o))
  alloc_is None = refl
  alloc_is (Some (Inst k)) = refl
  alloc_is (Some (Cell c)) = refl
  alloc_is (Some (Block f)) = allocated f

  pub alloc_done : (g : Goal) (z : Var) (o : Option Goal) → g ≡ n.goal → z ≡ new_int n → o ≡ after_alloc g z (block_in (slice_get g.post.chunks 0)) → with_goal n o ≡ raws n ByAlloc
  alloc_done g z o d v e = ap (with_goal n) (e ∙ (λ j. after_alloc (d j) (v j) (block_in (slice_get (d j).post.chunks 0)))) ∙ sym (alloc_is (slice_get (post_of n) 0))
