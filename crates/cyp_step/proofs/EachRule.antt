-- What each rule leaves to do.
use Rattle.std.proofs.Common.{◌&&◌, ◌==◌, length, refl, slice_get}
use Rattle.cyp_goal.proofs.LinksFit.{FitsPost, FitsPre}
use Rattle.cyp_goal.specs.Facts.{facts}
use Rattle.cyp_heap.specs.Formed.{insts_fit}
use Rattle.cyp_heap.specs.declared.goal.Link.{Link}
use Rattle.cyp_heap.specs.declared.goal.Node.{Node}
use Rattle.cyp_step.proofs.ChunkLists.{Every-slice_get, list_all-slice_get}
use Rattle.cyp_step.proofs.FlatRaws.{alloc_left, frame_left, free_left, pick_left, read_left, write_left}
use Rattle.cyp_step.proofs.RawNodes.{AreLeft, by_test, its_sides}
use Rattle.cyp_step.proofs.UnfoldedRaws.{call_left, close_left, open_left}
use Rattle.cyp_step.specs.Changes.{post_of, pre_of}
use Rattle.cyp_step.specs.Nodes.{IsNode}
use Rattle.cyp_step.specs.Shown.{shown}
use Rattle.cyp_step.specs.Step.{raws}
use Rattle.cyp_step.specs.declared.rule.Rule.{Rule}
use Rattle.cyp_step.specs.declared.rule.Rule.TheVariants.{ByAlloc, ByCall, ByClose, ByEmp, ByFrame, ByFree, ByInconsistent, ByOpen, ByPick, ByRead, ByWrite}
use Rattle.cyp_term.specs.Entailment.{satisfiable}
use Rattle.cyp_unify.specs.Frames.{focus}

module _ (n : Node) (w : IsNode n) where
  pub raws_left : (r : Rule) → AreLeft n (raws n r)
  raws_left ByInconsistent = by_test (satisfiable (facts n.goal)) (λ e. rw (e, raws) tt) (λ e. rw (e, raws) tt)
  raws_left ByEmp =
      by_test (length (pre_of n) == 0 && length (post_of n) == 0 && length n.goal.exist == 0)
      (λ e. rw (e, raws) (by_test (shown n.goal n.goal.pure_post) (λ d. rw d tt) (λ d. rw d tt)))
      (λ e. rw (e, raws) tt)
  raws_left (ByRead i) = read_left n w i (slice_get (pre_of n) i)
  raws_left (ByFrame i) = frame_left n w i
  raws_left (ByWrite i) = write_left n w i (focus n.goal) (slice_get (pre_of n) i)
  raws_left (ByFree i) = free_left n w i (slice_get (pre_of n) i)
  raws_left ByAlloc = alloc_left n w (focus n.goal)
  raws_left (ByCall c) =
      call_left n w c.pairs (slice_get n.links c.link) (list_all-slice_get (λ (k : Link). insts_fit n.preds k.goal) n.links c.link w.raw.linked.goals_fit)
  raws_left (ByOpen i) = open_left n w i (slice_get (pre_of n) i) refl (Every-slice_get (FitsPre n.preds) (pre_of n) i (its_sides n w).pre)
  raws_left (ByClose c) = close_left n w c (focus n.goal) (Every-slice_get (FitsPost n.preds) (post_of n) 0 (its_sides n w).post)
  raws_left (ByPick u) = pick_left n w u
