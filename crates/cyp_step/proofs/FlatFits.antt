-- The instances of the goals that the rules which unfold nothing leave fit.
use Rattle.std.proofs.Common.{◌≡◌, ◌≤◌, ℕ, Bool, true, false, List, None, Option, Some, IfSome, IsTrue, length, map, option_map, slice_set, suc, subst, sym}
use Rattle.std.specs.List.{AllByRecursion}
use Rattle.cyp_goal.proofs.LinksFit.{FitsPost, FitsPre, SidesFit, insts_fit_from, sides_fit}
use Rattle.cyp_heap.specs.Chunks.{put, without}
use Rattle.cyp_heap.specs.Formed.{inst_fits, insts_fit, is_card_var}
use Rattle.cyp_heap.specs.Keeps.{KeepsNode}
use Rattle.cyp_heap.specs.declared.chunk.BlockAt.{BlockAt}
use Rattle.cyp_heap.specs.declared.chunk.CellAt.{CellAt}
use Rattle.cyp_heap.specs.declared.chunk.Chunk.{Chunk}
use Rattle.cyp_heap.specs.declared.chunk.Chunk.TheVariants.{Block, Cell}
use Rattle.cyp_heap.specs.declared.chunk.InstOf.{InstOf}
use Rattle.cyp_heap.specs.declared.goal.Goal.{Goal}
use Rattle.cyp_heap.specs.declared.goal.Node.{Node}
use Rattle.cyp_heap.specs.declared.pred.Preds.{Preds}
use Rattle.cyp_pred.specs.Unfold.{new_ints}
use Rattle.cyp_step.proofs.ChunkLists.{Every-put, Every-put_all, Every-slice_set, Every-without}
use Rattle.cyp_step.proofs.FlatRaws.{new_cells_pass, without_cells_kept}
use Rattle.cyp_step.proofs.GoalOfNode.{goal_of_node}
use Rattle.cyp_step.specs.FlatGoals.{after_alloc, after_frame, after_free, after_pick, after_read, after_write, allocated_goal, can_be_framed, can_be_freed, can_be_picked, can_be_read, framed_goal, goal_where, is_to_be_written, read_goal, with_post_lit, with_pre}
use Rattle.cyp_step.specs.FlatRules.{block_cells, equal_vars, is_bare_open, new_cells, without_cells}
use Rattle.cyp_term.specs.Terms.{var_term}
use Rattle.cyp_term.specs.declared.lit.Lit.{Lit}
use Rattle.cyp_term.specs.declared.term.Term.{Term}
use Rattle.cyp_term.specs.declared.term.Var.{Var}

-- what holds of a value, in the form in which a condition says it
pub for_some : {A : Type 0} (P : A → Type 0) (o : Option A) → IfSome o P → (x : A) → o ≡ Some x → P x
for_some P o h x e = subst (λ p. IfSome p P) e h

module _ (preds : Preds) (g : Goal) (fit : IsTrue (insts_fit preds g)) where
  sides : SidesFit preds g
  sides = sides_fit preds g fit

  -- the instances of the goal fit
  abbrev pub Fits : Goal → Type 0
  Fits h = IsTrue (insts_fit preds h)

  where_fits : (b : Bool) (h : Goal) → Fits h → IfSome (goal_where b h) Fits
  where_fits true h k = k
  where_fits false h k = tt

  -- with chunks that fit in the precondition
  pre_fits : (h : Goal) → AllByRecursion (FitsPre preds) h.pre.chunks → AllByRecursion (FitsPost preds) h.post.chunks → Fits h
  pre_fits h k l = insts_fit_from preds h (record { pre = k; post = l })

  pub read_fits : (i : ℕ) (y : Var) (o : Option CellAt) → IfSome (after_read g i y o) Fits
  read_fits i y None = tt
  read_fits i y (Some c) =
      let h : Goal = read_goal g i y c in
      where_fits (can_be_read g c) h (pre_fits h (Every-slice_set (FitsPre preds) g.pre.chunks i (Cell (record { at = c.at; content = var_term y })) tt sides.pre) sides.post)

  pub write_fits : (i : ℕ) (o p : Option CellAt) → IfSome (after_write g i o p) Fits
  write_fits i None p = tt
  write_fits i (Some f) None = tt
  write_fits i (Some f) (Some c) =
      let new : Chunk = Cell (record { at = c.at; content = f.content }) in
      let h : Goal = with_pre g (slice_set g.pre.chunks i new) in
      where_fits (is_to_be_written g i f c) h (pre_fits h (Every-slice_set (FitsPre preds) g.pre.chunks i new tt sides.pre) sides.post)

  pub frame_fits : (i : ℕ) (o : Option (List Lit)) → IfSome (after_frame g i o) Fits
  frame_fits i None = tt
  frame_fits i (Some ls) =
      let h : Goal = framed_goal g i ls in
      where_fits (can_be_framed g ls) h (pre_fits h (Every-without (FitsPre preds) g.pre.chunks i sides.pre) (Every-without (FitsPost preds) g.post.chunks 0 sides.post))

  freed : (o : Option (List Chunk)) → IfSome o (AllByRecursion (FitsPre preds)) → IfSome (option_map (with_pre g) o) Fits
  freed None h = tt
  freed (Some cs) h = pre_fits (with_pre g cs) h sides.post

  tested : (b : Bool) (o : Option (List Chunk)) → IfSome o (AllByRecursion (FitsPre preds)) → IfSome (elim b [ false ↦ None | true ↦ option_map (with_pre g) o ]) Fits
  tested false o h = tt
  tested true o h = freed o h

  pub free_fits : (i : ℕ) (o : Option BlockAt) → IfSome (after_free g i o) Fits
  free_fits i None = tt
  free_fits i (Some b) =
      tested (can_be_freed g b) (without_cells (block_cells b.at b.size) (without g.pre.chunks i))
      (without_cells_kept (FitsPre preds) (block_cells b.at b.size) (without g.pre.chunks i) (Every-without (FitsPre preds) g.pre.chunks i sides.pre))

  pub pick_fits : (u : Var) (o : Option Var) → IfSome (after_pick g u o) Fits
  pick_fits u None = tt
  pick_fits u (Some v) = let h : Goal = with_post_lit g (equal_vars v u) in where_fits (can_be_picked g v.sort u) h (pre_fits h sides.pre sides.post)

  pub alloc_fits : (z : Var) (o : Option BlockAt) → IfSome (after_alloc g z o) Fits
  alloc_fits z None = tt
  alloc_fits z (Some f) =
      let h : Goal = allocated_goal g z f in
      let block : Chunk = Block (record { at = var_term z; size = f.size }) in
      let contents : List Term = map var_term (new_ints (suc z.number) f.size) in
      where_fits (is_bare_open g f.at) h
      (pre_fits h
      (Every-put_all (FitsPre preds) (put g.pre.chunks block) (new_cells (var_term z) 0 contents)
      (new_cells_pass (inst_fits preds) (λ (i : InstOf). is_card_var i.card) (var_term z) 0 contents)
      (Every-put (FitsPre preds) g.pre.chunks block tt sides.pre))
      sides.post)

-- ---- at a node

-- the goal that is left, in the form in which a condition says it
pub left_fits : (n : Node) (g : Goal) (o p : Option Goal) → KeepsNode n → g ≡ n.goal → o ≡ p → (IsTrue (insts_fit n.preds g) → IfSome p (λ h. IsTrue (insts_fit n.preds h)))
    → (h : Goal) → o ≡ Some h → IsTrue (insts_fit n.preds h)
left_fits n g o p w d e f =
    for_some (λ h. IsTrue (insts_fit n.preds h)) o (subst (λ q. IfSome q (λ h. IsTrue (insts_fit n.preds h))) (sym e) (f (subst (λ (h : Goal). IsTrue (insts_fit n.preds h)) (sym d) w.fits)))

pub few_chunks : (n : Node) (g : Goal) → KeepsNode n → g ≡ n.goal → length g.pre.chunks ≤ 16
few_chunks n g w d = subst (λ (h : Goal). length h.pre.chunks ≤ 16) (sym d) (goal_of_node n w.within).pre_chunks
