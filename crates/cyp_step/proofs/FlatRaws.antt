-- What the rules that unfold nothing leave to do.
use Rattle.std.proofs.Common.{◌&&◌, ◌||◌, ◌==◌, ◌∷◌, ℕ, suc, Bool, List, [], Option, Some, IfSome, length, map, not}
use Rattle.std.specs.List.{AllByRecursion, list_all}
use Rattle.cyp_goal.proofs.LinksFit.{FitsPost, FitsPre, InstPasses}
use Rattle.cyp_heap.specs.Chunks.{insts, put, without}
use Rattle.cyp_heap.specs.declared.chunk.Chunk.{Chunk}
use Rattle.cyp_heap.specs.declared.chunk.Chunk.TheVariants.{Block, Cell}
use Rattle.cyp_heap.specs.declared.chunk.InstOf.{InstOf}
use Rattle.cyp_heap.specs.Formed.{inst_fits, is_card_var}
use Rattle.cyp_heap.specs.declared.goal.Node.{Node}
use Rattle.cyp_pred.specs.Unfold.{new_ints}
use Rattle.cyp_step.proofs.ChunkLists.{Every-put, Every-put_all, Every-slice_set, Every-without, IfSome-map}
use Rattle.cyp_step.proofs.RawNodes.{AreLeft, IsLeft, by_option, by_test, its_sides, left_one}
use Rattle.cyp_step.specs.Changes.{add_pre, new_int, post_of, pre_of}
use Rattle.cyp_step.specs.FlatRules.{block_cells, first_exist, first_place, has_exist, is_bare_open, is_cell_at, is_place, is_universal, is_written_at, new_cells, occurs_elsewhere, pair_at, raw_alloc, raw_frame, raw_free, raw_pick, raw_read, raw_write, without_cells}
use Rattle.cyp_step.specs.Nodes.{IsNode}
use Rattle.cyp_step.specs.Shown.{is_open, is_program_expr, shown}
use Rattle.cyp_term.specs.Terms.{var_term}
use Rattle.cyp_term.specs.declared.lit.Lit.TheVariants.{Eq}
use Rattle.cyp_term.specs.declared.term.Term.{Term}
use Rattle.cyp_term.specs.declared.term.Var.{Var}
use Rattle.cyp_unify.specs.Frames.{frame_pairs}

-- ---- cells taken and made

pub without_cells_kept : (P : Chunk → Type 0) (ts : List Term) (cs : List Chunk) → AllByRecursion P cs → IfSome (without_cells ts cs) (AllByRecursion P)
without_cells_kept P [] cs h = h
without_cells_kept P (t ∷ ts) cs h =
    by_option (first_place (is_written_at t) 0 cs) (λ e. rw (e, without_cells) tt) (λ k e. rw (e, without_cells) (without_cells_kept P ts (without cs k) (Every-without P cs k h)))

pub new_cells_pass : (p q : InstOf → Bool) (t : Term) (j : ℕ) (vs : List Term) → AllByRecursion (InstPasses p q) (new_cells t j vs)
new_cells_pass p q t j [] = tt
new_cells_pass p q t j (v ∷ vs) = (tt, new_cells_pass p q t (suc j) vs)

module _ (n : Node) (w : IsNode n) where
  pre : AllByRecursion (FitsPre n.preds) n.goal.pre.chunks
  pre = (its_sides n w).pre

  post : AllByRecursion (FitsPost n.preds) n.goal.post.chunks
  post = (its_sides n w).post

  pub read_left : (i : ℕ) (o : Option Chunk) → AreLeft n (raw_read n i o)
  read_left i (Some (Cell c)) =
      by_test (is_program_expr n.goal c.at && not (is_program_expr n.goal c.content) && occurs_elsewhere n.goal c.content)
      (λ e. rw e (left_one n w _ (Every-slice_set (FitsPre n.preds) (pre_of n) i (Cell (record { at = c.at; content = var_term (new_int n) })) tt pre) post))
      (λ e. rw e tt)
  read_left i _ = tt

  pub frame_left : (i : ℕ) → AreLeft n (raw_frame n i)
  frame_left i =
      by_option (pair_at i (frame_pairs n.goal)) (λ e. rw (e, raw_frame) tt)
      (λ p e. rw (e, raw_frame)
      (by_test (list_all (λ l. is_open n.goal l || shown n.goal (l ∷ [])) p.lits)
      (λ d. rw d (left_one n w _ (Every-without (FitsPre n.preds) (pre_of n) i pre) (Every-without (FitsPost n.preds) (post_of n) 0 post)))
      (λ d. rw d tt)))

  pub write_left : (i : ℕ) (o p : Option Chunk) → AreLeft n (raw_write n i o p)
  write_left i (Some (Cell f)) (Some (Cell c)) =
      by_test (not (has_exist n.goal f.at) && is_program_expr n.goal c.at && is_program_expr n.goal f.content)
      (λ e. rw (e, raw_write)
      (by_test (is_place i (first_place (is_cell_at n.goal f.at) 0 (pre_of n)))
      (λ d. rw d
      (by_test (shown n.goal (Eq f.content c.content ∷ []))
      (λ b. rw b tt)
      (λ b. rw b (left_one n w _ (Every-slice_set (FitsPre n.preds) (pre_of n) i (Cell (record { at = c.at; content = f.content })) tt pre) post))))
      (λ d. rw d tt)))
      (λ e. rw (e, raw_write) tt)
  write_left i _ _ = tt

  pub free_left : (i : ℕ) (o : Option Chunk) → AreLeft n (raw_free n i o)
  free_left i (Some (Block b)) =
      by_test (length (post_of n) == 0 && is_program_expr n.goal b.at)
      (λ e. rw (e, raw_free)
      (IfSome-map (AllByRecursion (FitsPre n.preds)) (AllByRecursion (IsLeft n)) (λ (cs : List Chunk). add_pre n [] cs ∷ []) (λ cs h. left_one n w _ h post)
      (without_cells (block_cells b.at b.size) (without (pre_of n) i))
      (without_cells_kept (FitsPre n.preds) (block_cells b.at b.size) (without (pre_of n) i) (Every-without (FitsPre n.preds) (pre_of n) i pre))))
      (λ e. rw (e, raw_free) tt)
  free_left i _ = tt

  pub alloc_left : (o : Option Chunk) → AreLeft n (raw_alloc n o)
  alloc_left (Some (Block f)) =
      let z : Var = new_int n in
      let contents : List Term = map var_term (new_ints (suc z.number) f.size) in
      let block : Chunk = Block (record { at = var_term z; size = f.size }) in
      by_test (is_bare_open n.goal f.at)
      (λ e. rw e
      (left_one n w _
      (Every-put_all (FitsPre n.preds) (put (pre_of n) block) (new_cells (var_term z) 0 contents)
      (new_cells_pass (inst_fits n.preds) (λ (i : InstOf). is_card_var i.card) (var_term z) 0 contents)
      (Every-put (FitsPre n.preds) (pre_of n) block tt pre))
      post))
      (λ e. rw e tt)
  alloc_left _ = tt

  pub pick_left : (u : Var) → AreLeft n (raw_pick n u)
  pick_left u =
      by_option (first_exist n.goal) (λ e. rw (e, raw_pick) tt)
      (λ v e. rw (e, raw_pick) (by_test (length (insts (post_of n)) == 0 && is_universal n.goal v.sort u) (λ d. rw d (left_one n w _ pre post)) (λ d. rw d tt)))
