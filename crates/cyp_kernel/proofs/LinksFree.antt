-- No existential of a companion has an image in its map: so it is of the companion that Open adds, and no rule changes it.
use Rattle.std.proofs.Common.{◌≡◌, refl, sym, ℕ, true, false, not, ◌&&◌, ◌||◌, ◌==◌, length, List, [], ◌∷◌, map, filter, Option, Some, None, inl, inr, subst}
use Rattle.std.specs.Prelude.{is_none, nat_lt, slice_get}
use Rattle.std.specs.List.{AllByRecursion, list_all}
use Rattle.std.proofs.lemmas.Bool.{and_from, both_ways, false_from_ne_true, not-true}
use Rattle.cyp_goal.specs.Facts.{facts}
use Rattle.cyp_heap.specs.Chunks.{insts, without}
use Rattle.cyp_heap.specs.Goals.{node_vars}
use Rattle.cyp_heap.specs.declared.chunk.Chunk.{Chunk}
use Rattle.cyp_heap.specs.declared.chunk.Chunk.TheVariants.{Block, Cell, Inst}
use Rattle.cyp_heap.specs.declared.chunk.InstOf.{InstOf}
use Rattle.cyp_heap.specs.declared.goal.Link.{Link}
use Rattle.cyp_heap.specs.declared.goal.Node.{Node}
use Rattle.cyp_kernel.proofs.ForgetVars.{in_from_among}
use Rattle.cyp_kernel.proofs.FoundImages.{ExistFree}
use Rattle.cyp_pred.specs.Unfold.{unfold_inst}
use Rattle.cyp_pred.specs.declared.unfolded.Unfolded.{Unfolded}
use Rattle.cyp_step.proofs.RawNodes.{by_option, by_test}
use Rattle.cyp_step.specs.Calling.{is_callable, raw_call}
use Rattle.cyp_step.specs.Changes.{Raws, next_of, post_of, pre_of}
use Rattle.cyp_step.specs.FlatRules.{block_cells, first_exist, first_place, has_exist, is_bare_open, is_cell_at, is_place, is_universal, occurs_elsewhere, pair_at, raw_alloc, raw_frame, raw_free, raw_pick, raw_read, raw_write, without_cells}
use Rattle.cyp_step.specs.Shown.{is_open, is_program_expr, shown}
use Rattle.cyp_step.specs.Step.{raws}
use Rattle.cyp_step.specs.Unfolding.{identity_map, is_testable, open_link, open_premise, raw_close, raw_open}
use Rattle.cyp_step.specs.declared.rule.Rule.{Rule}
use Rattle.cyp_step.specs.declared.rule.Rule.TheVariants.{ByAlloc, ByCall, ByClose, ByEmp, ByFrame, ByFree, ByInconsistent, ByOpen, ByPick, ByRead, ByWrite}
use Rattle.cyp_term.proofs.Equality.{Decides-var_eq}
use Rattle.cyp_term.proofs.Lists.{Among, Every-append, each_from, filter_out}
use Rattle.cyp_term.specs.Entailment.{satisfiable}
use Rattle.cyp_term.specs.Terms.{int_image, is_set_var, set_image, set_var, var_eq, var_in, var_term}
use Rattle.cyp_term.specs.declared.lit.Lit.TheVariants.{Eq}
use Rattle.cyp_term.specs.declared.term.Var.{Var}
use Rattle.cyp_unify.specs.Frames.{focus, frame_pairs}
use Rattle.cyp_unify.specs.Matches.{match_at}

-- ---- the companion that Open adds

no_int : (xs : List Var) (v : Var) → ((w : Var) → Among w xs → w ≡ v → ⊥) → is_none (int_image (map (λ w. record { var = w; to = var_term w }) xs) v) ≡ true
no_int [] v f = refl
no_int (x ∷ xs) v f =
    let other : var_eq x v ≡ false = false_from_ne_true (var_eq x v) (λ e. f x (inl refl) ((Decides-var_eq x v).0 e)) in
    rw other (no_int xs v (λ w k. f w (inr k)))

no_set : (xs : List Var) (v : Var) → ((w : Var) → Among w xs → w ≡ v → ⊥) → is_none (set_image (map (λ w. record { var = w; to = set_var w }) xs) v) ≡ true
no_set [] v f = refl
no_set (x ∷ xs) v f =
    let other : var_eq x v ≡ false = false_from_ne_true (var_eq x v) (λ e. f x (inl refl) ((Decides-var_eq x v).0 e)) in
    rw other (no_set xs v (λ w k. f w (inr k)))

-- no existential has an image in the companion's map
abbrev pub LinkFree : Link → Type 0
LinkFree l = ExistFree l.map l.goal.exist ≡ true

pub open_link_free : (n : Node) (i : ℕ) (j : InstOf) → LinkFree (open_link n i j)
open_link_free n i j =
    let known : List Var = filter (λ v. not (var_in v n.goal.exist)) (node_vars n) in
    each_from (λ v. is_none (int_image (identity_map n).ints v) && is_none (set_image (identity_map n).sets v)) n.goal.exist
    (λ v k.
    let apart = λ (w : Var) (m : Among w known) (e : w ≡ v).
    both_ways (var_in w n.goal.exist) (not-true (var_in w n.goal.exist) (filter_out (λ x. not (var_in x n.goal.exist)) w (node_vars n) m).1)
    (in_from_among w n.goal.exist (subst (λ (y : Var). Among y n.goal.exist) (sym e) k)) in
    and_from (is_none (int_image (identity_map n).ints v)) (is_none (set_image (identity_map n).sets v))
    (no_int (filter (λ x. not (is_set_var x)) known) v (λ w m e. apart w (filter_out (λ x. not (is_set_var x)) w known m).0 e))
    (no_set (filter is_set_var known) v (λ w m e. apart w (filter_out is_set_var w known m).0 e)))

-- ---- what each rule leaves

-- no existential of any companion has an image in its map
abbrev pub LinksFree : Node → Type 0
LinksFree n = AllByRecursion LinkFree n.links

abbrev pub AreFree : Raws → Type 0
AreFree None = Unit {0}
AreFree (Some ms) = AllByRecursion LinksFree ms

module _ (n : Node) (free : LinksFree n) where
  read_free : (i : ℕ) (o : Option Chunk) → AreFree (raw_read n i o)
  read_free i (Some (Cell c)) =
      by_test (is_program_expr n.goal c.at && not (is_program_expr n.goal c.content) && occurs_elsewhere n.goal c.content) (λ e. rw e (free, tt)) (λ e. rw e tt)
  read_free i _ = tt

  frame_free : (i : ℕ) → AreFree (raw_frame n i)
  frame_free i =
      by_option (pair_at i (frame_pairs n.goal)) (λ e. rw (e, raw_frame) tt)
      (λ p e. rw (e, raw_frame) (by_test (list_all (λ l. is_open n.goal l || shown n.goal (l ∷ [])) p.lits) (λ d. rw d (free, tt)) (λ d. rw d tt)))

  write_free : (i : ℕ) (o p : Option Chunk) → AreFree (raw_write n i o p)
  write_free i (Some (Cell f)) (Some (Cell c)) =
      by_test (not (has_exist n.goal f.at) && is_program_expr n.goal c.at && is_program_expr n.goal f.content)
      (λ e. rw (e, raw_write)
      (by_test (is_place i (first_place (is_cell_at n.goal f.at) 0 (pre_of n)))
      (λ d. rw d (by_test (shown n.goal (Eq f.content c.content ∷ [])) (λ b. rw b tt) (λ b. rw b (free, tt))))
      (λ d. rw d tt)))
      (λ e. rw (e, raw_write) tt)
  write_free i _ _ = tt

  free_free : (i : ℕ) (o : Option Chunk) → AreFree (raw_free n i o)
  free_free i (Some (Block b)) =
      by_test (length (post_of n) == 0 && is_program_expr n.goal b.at)
      (λ e. rw (e, raw_free) (by_option (without_cells (block_cells b.at b.size) (without (pre_of n) i)) (λ d. rw d tt) (λ cs d. rw d (free, tt))))
      (λ e. rw (e, raw_free) tt)
  free_free i _ = tt

  alloc_free : (o : Option Chunk) → AreFree (raw_alloc n o)
  alloc_free (Some (Block f)) = by_test (is_bare_open n.goal f.at) (λ e. rw e (free, tt)) (λ e. rw e tt)
  alloc_free _ = tt

  pick_free : (u : Var) → AreFree (raw_pick n u)
  pick_free u =
      by_option (first_exist n.goal) (λ e. rw (e, raw_pick) tt)
      (λ v e. rw (e, raw_pick) (by_test (length (insts (post_of n)) == 0 && is_universal n.goal v.sort u) (λ d. rw d (free, tt)) (λ d. rw d tt)))

  call_free : (ks : List ℕ) (o : Option Link) → AreFree (raw_call n ks o)
  call_free ks None = tt
  call_free ks (Some l) =
      by_option (match_at n l ks) (λ e. rw (e, raw_call) tt) (λ f e. rw (e, raw_call) (by_test (is_callable n l f) (λ d. rw d (free, tt)) (λ d. rw d tt)))

  opened_free : (i : ℕ) (j : InstOf) (us : List Unfolded) → AllByRecursion LinksFree (map (open_premise n i (open_link n i j)) us)
  opened_free i j [] = tt
  opened_free i j (u ∷ us) = (Every-append LinkFree n.links (open_link n i j ∷ []) free (open_link_free n i j, tt), opened_free i j us)

  open_free : (i : ℕ) (o : Option Chunk) → AreFree (raw_open n i o)
  open_free i (Some (Inst j)) =
      by_test (nat_lt (length n.links) 4 && nat_lt j.tag 255 && list_all (λ (u : Unfolded). is_testable n.goal u.guard) (unfold_inst n.preds j (next_of n)))
      (λ e. rw e (opened_free i j (unfold_inst n.preds j (next_of n))))
      (λ e. rw e tt)
  open_free i _ = tt

  close_free : (c : ℕ) (o : Option Chunk) → AreFree (raw_close n c o)
  close_free c (Some (Inst j)) =
      by_test (nat_lt j.tag 255) (λ e. rw e (by_option (slice_get (unfold_inst n.preds j (next_of n)) c) (λ d. rw d tt) (λ u d. rw d (free, tt)))) (λ e. rw e tt)
  close_free c _ = tt

  pub raws_free : (r : Rule) → AreFree (raws n r)
  raws_free ByInconsistent = by_test (satisfiable (facts n.goal)) (λ e. rw (e, raws) tt) (λ e. rw (e, raws) tt)
  raws_free ByEmp =
      by_test (length (pre_of n) == 0 && length (post_of n) == 0 && length n.goal.exist == 0)
      (λ e. rw (e, raws) (by_test (shown n.goal n.goal.pure_post) (λ d. rw d tt) (λ d. rw d tt)))
      (λ e. rw (e, raws) tt)
  raws_free (ByRead i) = read_free i (slice_get (pre_of n) i)
  raws_free (ByFrame i) = frame_free i
  raws_free (ByWrite i) = write_free i (focus n.goal) (slice_get (pre_of n) i)
  raws_free (ByFree i) = free_free i (slice_get (pre_of n) i)
  raws_free ByAlloc = alloc_free (focus n.goal)
  raws_free (ByCall c) = call_free c.pairs (slice_get n.links c.link)
  raws_free (ByOpen i) = open_free i (slice_get (pre_of n) i)
  raws_free (ByClose c) = close_free c (focus n.goal)
  raws_free (ByPick u) = pick_free u
