-- A rule that neither unfolds nor calls has at most one premise.
use Rattle.std.proofs.Common.{◌&&◌, ◌||◌, ◌==◌, ◌∷◌, ◌≤◌, ℕ, suc, Bool, List, [], Option, Some, None, IfSome, arith, false, le_refl, length, not, option_map, slice_get, true}
use Rattle.std.specs.List.{All, list_all}
use Rattle.std.proofs.lemmas.List.{length-map}
use Rattle.std.proofs.lemmas.List.Elements.{All-from_recursion}
use Rattle.std.proofs.lemmas.Option.{IfSome_then}
use Rattle.cyp_flat.specs.FlatRows.{flat_rows, heap_rows, lone_rows, pick_rows}
use Rattle.cyp_goal.proofs.LinksNormal.{IfSome-and_then}
use Rattle.cyp_goal.specs.Facts.{facts}
use Rattle.cyp_goal.specs.Normal.{Renaming, normal}
use Rattle.cyp_heap.specs.Chunks.{without}
use Rattle.cyp_heap.specs.Goals.{wide_node}
use Rattle.cyp_heap.specs.declared.chunk.Chunk.{Chunk}
use Rattle.cyp_heap.specs.declared.chunk.Chunk.TheVariants.{Block, Cell}
use Rattle.cyp_heap.specs.declared.goal.Node.{Node}
use Rattle.cyp_moves.proofs.EachRow.{first_each, heap_each, lone_each, pick_each, row_each}
use Rattle.cyp_moves.specs.BuiltRows.{HasFewPremises, built_rows}
use Rattle.cyp_step.proofs.ChunkLists.{IfSome-map}
use Rattle.cyp_step.proofs.RawNodes.{by_option, by_test}
use Rattle.cyp_step.specs.Changes.{Raws, add_pre, post_of, pre_of, where_true}
use Rattle.cyp_step.specs.FlatRules.{block_cells, first_exist, first_place, has_exist, is_cell_at, is_place, pair_at, raw_alloc, raw_frame, raw_free, raw_pick, raw_read, raw_write, without_cells}
use Rattle.cyp_step.specs.RuleKinds.{IsFlatRule}
use Rattle.cyp_step.specs.Rows.{row}
use Rattle.cyp_step.specs.Shown.{is_open, is_program_expr, shown}
use Rattle.cyp_step.specs.Step.{all_normal, nodes_of, premises, raws, renamed_premises}
use Rattle.cyp_step.specs.declared.rule.Rule.{Rule}
use Rattle.cyp_step.specs.declared.rule.Rule.TheVariants.{ByAlloc, ByCall, ByClose, ByEmp, ByFrame, ByFree, ByInconsistent, ByOpen, ByPick, ByRead, ByWrite}
use Rattle.cyp_term.specs.Entailment.{satisfiable}
use Rattle.cyp_term.specs.declared.lit.Lit.TheVariants.{Eq}
use Rattle.cyp_term.specs.declared.term.Var.{Var}
use Rattle.cyp_unify.specs.Frames.{focus, frame_pairs}

-- none or one is left, where the rule is allowed
abbrev LeavesOne : Raws → Type 0
LeavesOne r = IfSome r (λ (ms : List Node). length ms ≤ 1)

nothing_left : LeavesOne (Some [])
nothing_left = omega arith

one_where : (b : Bool) (m : Node) → LeavesOne (where_true b (Some (m ∷ [])))
one_where true m = le_refl 1
one_where false m = tt

one_mapped : (f : List Chunk → Node) (o : Option (List Chunk)) → LeavesOne (option_map (λ (cs : List Chunk). f cs ∷ []) o)
one_mapped f None = tt
one_mapped f (Some cs) = le_refl 1

module _ (n : Node) where
  read_leaves : (i : ℕ) (o : Option Chunk) → LeavesOne (raw_read n i o)
  read_leaves i (Some (Cell c)) = one_where _ _
  read_leaves i _ = tt

  frame_leaves : (i : ℕ) → LeavesOne (raw_frame n i)
  frame_leaves i =
      by_option (pair_at i (frame_pairs n.goal)) (λ e. rw (e, raw_frame) tt)
      (λ p e. rw (e, raw_frame) (by_test (list_all (λ l. is_open n.goal l || shown n.goal (l ∷ [])) p.lits) (λ d. rw d (le_refl 1)) (λ d. rw d tt)))

  write_leaves : (i : ℕ) (o p : Option Chunk) → LeavesOne (raw_write n i o p)
  write_leaves i (Some (Cell f)) (Some (Cell c)) =
      by_test (not (has_exist n.goal f.at) && is_program_expr n.goal c.at && is_program_expr n.goal f.content)
      (λ e. rw (e, raw_write)
      (by_test (is_place i (first_place (is_cell_at n.goal f.at) 0 (pre_of n)))
      (λ d. rw d (by_test (shown n.goal (Eq f.content c.content ∷ [])) (λ b. rw b tt) (λ b. rw b (le_refl 1))))
      (λ d. rw d tt)))
      (λ e. rw (e, raw_write) tt)
  write_leaves i _ _ = tt

  free_leaves : (i : ℕ) (o : Option Chunk) → LeavesOne (raw_free n i o)
  free_leaves i (Some (Block b)) =
      by_test (length (post_of n) == 0 && is_program_expr n.goal b.at)
      (λ e. rw (e, raw_free) (one_mapped (λ cs. add_pre n [] cs) (without_cells (block_cells b.at b.size) (without (pre_of n) i))))
      (λ e. rw (e, raw_free) tt)
  free_leaves i _ = tt

  alloc_leaves : (o : Option Chunk) → LeavesOne (raw_alloc n o)
  alloc_leaves (Some (Block f)) = one_where _ _
  alloc_leaves _ = tt

  pick_leaves : (u : Var) → LeavesOne (raw_pick n u)
  pick_leaves u = by_option (first_exist n.goal) (λ e. rw (e, raw_pick) tt) (λ v e. rw (e, raw_pick) (one_where _ _))

  raws_leave : (r : Rule) → IsFlatRule r → LeavesOne (raws n r)
  raws_leave ByInconsistent h = by_test (satisfiable (facts n.goal)) (λ e. rw (e, raws) tt) (λ e. rw (e, raws) nothing_left)
  raws_leave ByEmp h =
      by_test (length (pre_of n) == 0 && length (post_of n) == 0 && length n.goal.exist == 0)
      (λ e. rw (e, raws) (by_test (shown n.goal n.goal.pure_post) (λ d. rw d nothing_left) (λ d. rw d tt)))
      (λ e. rw (e, raws) tt)
  raws_leave (ByRead i) h = read_leaves i (slice_get (pre_of n) i)
  raws_leave (ByFrame i) h = frame_leaves i
  raws_leave (ByWrite i) h = write_leaves i (focus n.goal) (slice_get (pre_of n) i)
  raws_leave (ByFree i) h = free_leaves i (slice_get (pre_of n) i)
  raws_leave ByAlloc h = alloc_leaves (focus n.goal)
  raws_leave (ByCall c) h = absurd h
  raws_leave (ByOpen i) h = absurd h
  raws_leave (ByClose c) h = absurd h
  raws_leave (ByPick u) h = pick_leaves u

-- ---- the premises

-- there are at most as many normal forms
normal_few : (ns : List Node) → IfSome (all_normal ns) (λ (rs : List Renaming). length rs ≤ length ns)
normal_few [] = le_refl 0
normal_few (n ∷ ns) =
    by_test (wide_node n) (λ e. rw (e, all_normal) tt)
    (λ e. rw (e, all_normal)
    (by_option (normal n) (λ d. rw d tt)
    (λ r d. rw d
    (IfSome-map (λ (rs : List Renaming). length rs ≤ length ns) (λ (rs : List Renaming). length rs ≤ suc (length ns)) (λ (rs : List Renaming). r ∷ rs) (λ rs h. omega (arith, h))
    (all_normal ns) (normal_few ns)))))

module _ (n : Node) where
  premises_few : (r : Rule) → IsFlatRule r → IfSome (premises n r) (λ (ms : List Node). length ms ≤ 255)
  premises_few r h =
      IfSome-map (λ (rs : List Renaming). length rs ≤ 1) (λ (ms : List Node). length ms ≤ 255) nodes_of (λ rs k. omega (arith, k, length-map rs (λ (s : Renaming). s.node)))
      (renamed_premises n r)
      (IfSome-and_then (λ (ms : List Node). length ms ≤ 1) (λ (rs : List Renaming). length rs ≤ 1) all_normal
      (λ ms k. IfSome_then (all_normal ms) (normal_few ms) (λ rs l. omega (arith, k, l)))
      (raws n r) (raws_leave n r h))

  few_of_row : (r : Rule) → IsFlatRule r → IfSome (row n r) HasFewPremises
  few_of_row r h = row_each HasFewPremises n r (premises_few r h)

  -- each row that is built has few premises
  pub few_built : All HasFewPremises (built_rows n)
  few_built =
      All-from_recursion HasFewPremises (built_rows n)
      (first_each HasFewPremises (flat_rows n) (λ _. pick_rows n)
      (first_each HasFewPremises (lone_rows n) (λ _. heap_rows n) (lone_each n HasFewPremises few_of_row) (heap_each n HasFewPremises few_of_row))
      (pick_each n HasFewPremises few_of_row))
