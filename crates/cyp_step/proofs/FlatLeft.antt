-- The rules that unfold nothing leave the node with the goal that they change.
use Rattle.std.proofs.Common.{◌≡◌, ◌∙◌, ◌&&◌, ◌==◌, ◌∷◌, ℕ, [], Bool, true, false, List, None, Option, Some, append-nil, length, not, option_map, refl, slice_get, sym, ap}
use Rattle.cyp_heap.specs.Chunks.{insts, without}
use Rattle.cyp_heap.specs.declared.chunk.Chunk.{Chunk}
use Rattle.cyp_heap.specs.declared.chunk.Chunk.TheVariants.{Block, Cell, Inst}
use Rattle.cyp_heap.specs.declared.goal.Goal.{Goal}
use Rattle.cyp_heap.specs.declared.goal.Node.{Node}
use Rattle.cyp_step.specs.Changes.{Raws, add_post, add_pre, new_int, post_of, pre_of, where_true}
use Rattle.cyp_step.specs.FlatGoals.{after_free, after_pick, after_read, after_write, block_in, can_be_freed, can_be_picked, can_be_read, can_be_written, cell_in, goal_where, read_goal, with_post_lit, with_pre}
use Rattle.cyp_step.specs.FlatRules.{block_cells, equal_vars, first_exist, first_place, is_cell_at, is_place, is_universal, raw_free, raw_pick, raw_read, raw_write, without_cells}
use Rattle.cyp_step.specs.Shown.{shown}
use Rattle.cyp_step.specs.Step.{raws}
use Rattle.cyp_step.specs.declared.rule.Rule.TheVariants.{ByFree, ByPick, ByRead, ByWrite}
use Rattle.cyp_term.specs.declared.lit.Lit.{Lit}
use Rattle.cyp_term.specs.declared.lit.Lit.TheVariants.{Eq}
use Rattle.cyp_term.specs.declared.term.Var.{Var}

module _ (n : Node) where
  -- the node with the goal, where there is one
  abbrev pub with_goal : Option Goal → Raws
  with_goal o = option_map (λ (g : Goal). record n { goal = g } ∷ []) o

  pub under : (b : Bool) (g : Goal) → where_true b (Some (record n { goal = g } ∷ [])) ≡ with_goal (goal_where b g)
  under true g = refl
  under false g = refl

  pub read_is : (i : ℕ) (o : Option Chunk) → raw_read n i o ≡ with_goal (after_read n.goal i (new_int n) (cell_in o))
  read_is i None = refl
  read_is i (Some (Inst k)) = refl
  read_is i (Some (Block b)) = refl
  read_is i (Some (Cell c)) = under (can_be_read n.goal c) (read_goal n.goal i (new_int n) c)

  -- no literal more
  same_pure : (cs : List Chunk) → add_pre n [] cs ≡ record n { goal = with_pre n.goal cs }
  same_pure cs = ap (λ (ls : List Lit). record n { goal = record n.goal { pure_pre = ls; pre = record { chunks = cs } } }) (append-nil n.goal.pure_pre)

  three_tests : (a b c : Bool) (m : Node) (g : Goal) → m ≡ record n { goal = g }
      → elim a [ false ↦ None | true ↦ elim b [ false ↦ None | true ↦ elim c [ true ↦ None | false ↦ Some (m ∷ []) ] ] ] ≡ with_goal (goal_where (a && b && not c) g)
  three_tests false b c m g e = refl
  three_tests true false c m g e = refl
  three_tests true true true m g e = refl
  three_tests true true false m g e = ap (λ (k : Node). Some (k ∷ [])) e

  pub write_is : (i : ℕ) (o p : Option Chunk) → raw_write n i o p ≡ with_goal (after_write n.goal i (cell_in o) (cell_in p))
  write_is i None p = refl
  write_is i (Some (Inst k)) p = refl
  write_is i (Some (Block b)) p = refl
  write_is i (Some (Cell f)) None = refl
  write_is i (Some (Cell f)) (Some (Inst k)) = refl
  write_is i (Some (Cell f)) (Some (Block b)) = refl
  write_is i (Some (Cell f)) (Some (Cell c)) =
      three_tests (can_be_written n.goal f c) (is_place i (first_place (is_cell_at n.goal f.at) 0 (pre_of n))) (shown n.goal (Eq f.content c.content ∷ [])) _ _ (same_pure _)

  freed : (o : Option (List Chunk)) → option_map (λ (cs : List Chunk). add_pre n [] cs ∷ []) o ≡ with_goal (option_map (with_pre n.goal) o)
  freed None = refl
  freed (Some cs) = ap (λ (m : Node). Some (m ∷ [])) (same_pure cs)

  one_test : (b : Bool) (o : Option (List Chunk))
      → elim b [ false ↦ None | true ↦ option_map (λ (cs : List Chunk). add_pre n [] cs ∷ []) o ] ≡ with_goal (elim b [ false ↦ None | true ↦ option_map (with_pre n.goal) o ])
  one_test false o = refl
  one_test true o = freed o

  pub free_is : (i : ℕ) (o : Option Chunk) → raw_free n i o ≡ with_goal (after_free n.goal i (block_in o))
  free_is i None = refl
  free_is i (Some (Inst k)) = refl
  free_is i (Some (Cell c)) = refl
  free_is i (Some (Block b)) = one_test (can_be_freed n.goal b) (without_cells (block_cells b.at b.size) (without (pre_of n) i))

  picked : (u : Var) (o : Option Var) → elim o [
    | None ↦ None
    | Some v ↦ where_true (length (insts (post_of n)) == 0 && is_universal n.goal v.sort u) (Some (add_post n (equal_vars v u ∷ []) (post_of n) ∷ []))
  ] ≡ with_goal (after_pick n.goal u o)
  picked u None = refl
  picked u (Some v) = under (can_be_picked n.goal v.sort u) (with_post_lit n.goal (equal_vars v u))

  pub pick_is : (u : Var) → raw_pick n u ≡ with_goal (after_pick n.goal u (first_exist n.goal))
  pick_is u = picked u (first_exist n.goal)

  -- ---- where the goal is that of the node

  pub read_done : (g : Goal) (y : Var) (i : ℕ) (o : Option Goal) → g ≡ n.goal → y ≡ new_int n → o ≡ after_read g i y (cell_in (slice_get g.pre.chunks i))
      → with_goal o ≡ raws n (ByRead i)
  read_done g y i o d v e =
      ap with_goal (e ∙ (λ j. after_read (d j) i (v j) (cell_in (slice_get (d j).pre.chunks i)))) ∙ sym (read_is i (slice_get (pre_of n) i))

  pub write_done : (g : Goal) (i : ℕ) (o : Option Goal) → g ≡ n.goal → o ≡ after_write g i (cell_in (slice_get g.post.chunks 0)) (cell_in (slice_get g.pre.chunks i))
      → with_goal o ≡ raws n (ByWrite i)
  write_done g i o d e =
      ap with_goal (e ∙ (λ j. after_write (d j) i (cell_in (slice_get (d j).post.chunks 0)) (cell_in (slice_get (d j).pre.chunks i))))
      ∙ sym (write_is i (slice_get (post_of n) 0) (slice_get (pre_of n) i))

  pub free_done : (g : Goal) (i : ℕ) (o : Option Goal) → g ≡ n.goal → o ≡ after_free g i (block_in (slice_get g.pre.chunks i)) → with_goal o ≡ raws n (ByFree i)
  free_done g i o d e = ap with_goal (e ∙ (λ j. after_free (d j) i (block_in (slice_get (d j).pre.chunks i)))) ∙ sym (free_is i (slice_get (pre_of n) i))

  pub pick_done : (g : Goal) (u : Var) (o : Option Goal) → g ≡ n.goal → o ≡ after_pick g u (first_exist g) → with_goal o ≡ raws n (ByPick u)
  pick_done g u o d e = ap with_goal (e ∙ (λ j. after_pick (d j) u (first_exist (d j)))) ∙ sym (pick_is u)
