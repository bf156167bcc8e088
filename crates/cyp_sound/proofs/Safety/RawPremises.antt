-- What a rule leaves has the node's program variables, and a new one behind them where it binds one, and the companions, and behind them the
-- node's own goal where it is opened.
use Rattle.cyp_goal.specs.Facts.{facts}
use Rattle.cyp_heap.specs.Chunks.{insts, without}
use Rattle.cyp_heap.specs.declared.chunk.Chunk.{Chunk}
use Rattle.cyp_heap.specs.declared.chunk.Chunk.TheVariants.{Block, Cell, Inst}
use Rattle.cyp_heap.specs.declared.chunk.InstOf.{InstOf}
use Rattle.cyp_heap.specs.declared.goal.Goal.{Goal}
use Rattle.cyp_heap.specs.declared.goal.Link.{Link}
use Rattle.cyp_heap.specs.declared.goal.Node.{Node}
use Rattle.cyp_kernel.specs.Compile.{is_binder}
use Rattle.cyp_pred.specs.Unfold.{unfold_inst}
use Rattle.cyp_pred.specs.declared.unfolded.Unfolded.{Unfolded}
use Rattle.cyp_sound.proofs.Safety.CompanionGoals.{link_goals}
use Rattle.cyp_step.proofs.RawNodes.{by_option, by_test}
use Rattle.cyp_step.specs.Calling.{is_callable, raw_call}
use Rattle.cyp_step.specs.Changes.{Raws, next_of, post_of, pre_of, new_int}
use Rattle.cyp_step.specs.FlatRules.{block_cells, first_exist, first_place, has_exist, is_bare_open, is_cell_at, is_place, is_universal, occurs_elsewhere, pair_at, raw_alloc, raw_frame, raw_free, raw_pick, raw_read, raw_write, without_cells}
use Rattle.cyp_step.specs.Shown.{is_open, is_program_expr, shown}
use Rattle.cyp_step.specs.Step.{raws}
use Rattle.cyp_step.specs.Unfolding.{is_testable, open_link, open_premise, raw_close, raw_open}
use Rattle.cyp_step.specs.declared.rule.CallBy.{CallBy}
use Rattle.cyp_step.specs.declared.rule.Rule.{Rule}
use Rattle.cyp_step.specs.declared.rule.Rule.TheVariants.{ByAlloc, ByCall, ByClose, ByEmp, ByFrame, ByFree, ByInconsistent, ByOpen, ByPick, ByRead, ByWrite}
use Rattle.cyp_term.specs.Entailment.{satisfiable}
use Rattle.cyp_term.specs.declared.lit.Lit.TheVariants.{Eq}
use Rattle.cyp_term.specs.declared.term.Var.{Var}
use Rattle.cyp_unify.specs.Frames.{focus, frame_pairs}
use Rattle.cyp_unify.specs.Matches.{match_at}
use Rattle.std.proofs.Common.{◌≡◌, refl, ℕ, not, ◌&&◌, ◌||◌, ◌==◌, length, List, [], ◌∷◌, ◌++◌, map, Option, Some, None, subst}
use Rattle.std.proofs.lemmas.List.{map-append}
use Rattle.std.proofs.lemmas.List.Elements.{All-from_recursion}
use Rattle.std.specs.List.{AllByRecursion, list_all, All}
use Rattle.std.specs.Prelude.{nat_lt, slice_get, cond}

-- the goals of the companions of a rule's premises: those of the node, and behind them the node's own goal where it is opened
abbrev pub goals_after : Node → Rule → List Goal
goals_after n (ByOpen i) = link_goals n.links ++ n.goal ∷ []
goals_after n r = link_goals n.links

-- the program variables of a rule's premises, before the normal form
abbrev pub program_after : Node → Rule → List Var
program_after n r = cond (is_binder r) (n.goal.program ++ new_int n ∷ []) n.goal.program

-- a premise before its normal form has these program variables and companions
pub record IsAfter (n : Node) (r : Rule) (m : Node) : Type 0 where
  pub goals : link_goals m.links ≡ goals_after n r
  pub program : m.goal.program ≡ program_after n r

abbrev AreAfter : Node → Rule → Raws → Type 0
AreAfter n r None = Unit {0}
AreAfter n r (Some ms) = AllByRecursion (IsAfter n r) ms

module _ (n : Node) where
  read_after : (i k : ℕ) (o : Option Chunk) → AreAfter n (ByRead k) (raw_read n i o)
  read_after i k (Some (Cell c)) =
      by_test (is_program_expr n.goal c.at && not (is_program_expr n.goal c.content) && occurs_elsewhere n.goal c.content) (λ e. rw e (record { goals = refl; program = refl }, tt)) (λ e. rw e tt)
  read_after i k _ = tt

  frame_after : (i : ℕ) → AreAfter n (ByFrame i) (raw_frame n i)
  frame_after i =
      by_option (pair_at i (frame_pairs n.goal)) (λ e. rw (e, raw_frame) tt)
      (λ p e. rw (e, raw_frame) (by_test (list_all (λ l. is_open n.goal l || shown n.goal (l ∷ [])) p.lits) (λ d. rw d (record { goals = refl; program = refl }, tt)) (λ d. rw d tt)))

  write_after : (i : ℕ) (o p : Option Chunk) → AreAfter n (ByWrite i) (raw_write n i o p)
  write_after i (Some (Cell f)) (Some (Cell c)) =
      by_test (not (has_exist n.goal f.at) && is_program_expr n.goal c.at && is_program_expr n.goal f.content)
      (λ e. rw (e, raw_write)
      (by_test (is_place i (first_place (is_cell_at n.goal f.at) 0 (pre_of n)))
      (λ d. rw d (by_test (shown n.goal (Eq f.content c.content ∷ [])) (λ b. rw b tt) (λ b. rw b (record { goals = refl; program = refl }, tt))))
      (λ d. rw d tt)))
      (λ e. rw (e, raw_write) tt)
  write_after i _ _ = tt

  free_after : (i : ℕ) (o : Option Chunk) → AreAfter n (ByFree i) (raw_free n i o)
  free_after i (Some (Block b)) =
      by_test (length (post_of n) == 0 && is_program_expr n.goal b.at)
      (λ e. rw (e, raw_free) (by_option (without_cells (block_cells b.at b.size) (without (pre_of n) i)) (λ d. rw d tt) (λ cs d. rw d (record { goals = refl; program = refl }, tt))))
      (λ e. rw (e, raw_free) tt)
  free_after i _ = tt

  alloc_after : (o : Option Chunk) → AreAfter n ByAlloc (raw_alloc n o)
  alloc_after (Some (Block f)) = by_test (is_bare_open n.goal f.at) (λ e. rw e (record { goals = refl; program = refl }, tt)) (λ e. rw e tt)
  alloc_after _ = tt

  pick_after : (u : Var) → AreAfter n (ByPick u) (raw_pick n u)
  pick_after u =
      by_option (first_exist n.goal) (λ e. rw (e, raw_pick) tt)
      (λ v e. rw (e, raw_pick) (by_test (length (insts (post_of n)) == 0 && is_universal n.goal v.sort u) (λ d. rw d (record { goals = refl; program = refl }, tt)) (λ d. rw d tt)))

  call_after : (c : CallBy) (ks : List ℕ) (o : Option Link) → AreAfter n (ByCall c) (raw_call n ks o)
  call_after c ks None = tt
  call_after c ks (Some l) =
      by_option (match_at n l ks) (λ e. rw (e, raw_call) tt) (λ f e. rw (e, raw_call) (by_test (is_callable n l f) (λ d. rw d (record { goals = refl; program = refl }, tt)) (λ d. rw d tt)))

  opened_after : (i : ℕ) (j : InstOf) (us : List Unfolded) → AllByRecursion (IsAfter n (ByOpen i)) (map (open_premise n i (open_link n i j)) us)
  opened_after i j [] = tt
  opened_after i j (u ∷ us) = (record { goals = map-append (λ (l : Link). l.goal) n.links (open_link n i j ∷ []); program = refl }, opened_after i j us)

  open_after : (i : ℕ) (o : Option Chunk) → AreAfter n (ByOpen i) (raw_open n i o)
  open_after i (Some (Inst j)) =
      by_test (nat_lt (length n.links) 4 && nat_lt j.tag 255 && list_all (λ (u : Unfolded). is_testable n.goal u.guard) (unfold_inst n.preds j (next_of n)))
      (λ e. rw e (opened_after i j (unfold_inst n.preds j (next_of n))))
      (λ e. rw e tt)
  open_after i _ = tt

  close_after : (c : ℕ) (o : Option Chunk) → AreAfter n (ByClose c) (raw_close n c o)
  close_after c (Some (Inst j)) =
      by_test (nat_lt j.tag 255) (λ e. rw e (by_option (slice_get (unfold_inst n.preds j (next_of n)) c) (λ d. rw d tt) (λ u d. rw d (record { goals = refl; program = refl }, tt)))) (λ e. rw e tt)
  close_after c _ = tt

  raws_after : (r : Rule) → AreAfter n r (raws n r)
  raws_after ByInconsistent = by_test (satisfiable (facts n.goal)) (λ e. rw (e, raws) tt) (λ e. rw (e, raws) tt)
  raws_after ByEmp =
      by_test (length (pre_of n) == 0 && length (post_of n) == 0 && length n.goal.exist == 0)
      (λ e. rw (e, raws) (by_test (shown n.goal n.goal.pure_post) (λ d. rw d tt) (λ d. rw d tt)))
      (λ e. rw (e, raws) tt)
  raws_after (ByRead i) = read_after i i (slice_get (pre_of n) i)
  raws_after (ByFrame i) = frame_after i
  raws_after (ByWrite i) = write_after i (focus n.goal) (slice_get (pre_of n) i)
  raws_after (ByFree i) = free_after i (slice_get (pre_of n) i)
  raws_after ByAlloc = alloc_after (focus n.goal)
  raws_after (ByCall c) = call_after c c.pairs (slice_get n.links c.link)
  raws_after (ByOpen i) = open_after i (slice_get (pre_of n) i)
  raws_after (ByClose c) = close_after c (focus n.goal)
  raws_after (ByPick u) = pick_after u

pub raws_are_after : (n : Node) (r : Rule) (ms : List Node) → raws n r ≡ Some ms → All (IsAfter n r) ms
raws_are_after n r ms e = All-from_recursion (IsAfter n r) ms (subst (AreAfter n r) e (raws_after n r))
