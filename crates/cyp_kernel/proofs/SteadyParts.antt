-- What is known of the parts of a steady node.
use Rattle.std.proofs.Common.{◌≡◌, sym, inl, inr, [], ◌∷◌, List, ◌++◌, ◌&&◌, zero, suc, false, not, true, IfSome, Some, ℕ, subst, slice_get, Option}
use Rattle.std.specs.List.{list_all}
use Rattle.std.proofs.lemmas.Bool.{and_parts, false_from_ne_true, not-true, both_ways}
use Rattle.std.proofs.lemmas.Option.{none-some, same_Some}
use Rattle.cyp_goal.proofs.LinksFit.{FitsPost, FitsPre, sides_fit}
use Rattle.cyp_goal.specs.Raw.{goal_fits, link_fits}
use Rattle.cyp_heap.specs.Chunks.{chunk_vars, chunks_vars}
use Rattle.cyp_heap.specs.declared.chunk.Chunk.{Chunk}
use Rattle.cyp_heap.specs.declared.goal.Goal.{Goal}
use Rattle.cyp_heap.specs.declared.goal.Node.{Node}
use Rattle.cyp_kernel.proofs.AgreeVars.{chunk_sorted, is_number_var, lit_sorted}
use Rattle.cyp_kernel.proofs.ForgetVars.{among_from_in, in_from_among}
use Rattle.cyp_kernel.specs.Steady.{IsSteady}
use Rattle.cyp_step.proofs.ChunkLists.{Every-slice_get}
use Rattle.cyp_term.proofs.Lists.{Among, Among-right, each_at, flat_in}
use Rattle.cyp_term.specs.Terms.{is_set_var, lits_vars, var_in}
use Rattle.cyp_term.specs.declared.term.Var.{Var}

pub slice_get-among : {A : Type 0} (xs : List A) (i : ℕ) (x : A) → slice_get xs i ≡ Some x → Among x xs
slice_get-among [] i x e = absurd (none-some x e)
slice_get-among (y ∷ xs) zero x e = inl (sym (same_Some y x e))
slice_get-among (y ∷ xs) (suc i) x e = inr (slice_get-among xs i x e)

-- the variables of a chunk are among those of the chunks
pub chunk_vars_among : (cs : List Chunk) (i : ℕ) (c : Chunk) → slice_get cs i ≡ Some c → (v : Var) → Among v (chunk_vars c) → Among v (chunks_vars cs)
chunk_vars_among cs i c e v k = flat_in chunk_vars v c cs (slice_get-among cs i c e) k

pub chunk_sorted_at : (cs : List Chunk) (i : ℕ) (c : Chunk) → slice_get cs i ≡ Some c → list_all chunk_sorted cs ≡ true → chunk_sorted c ≡ true
chunk_sorted_at cs i c e h = each_at chunk_sorted c cs h (slice_get-among cs i c e)

pub record SortedGoal (g : Goal) : Type 0 where
  pub pure_pre : list_all lit_sorted g.pure_pre ≡ true
  pub pre : list_all chunk_sorted g.pre.chunks ≡ true
  pub pure_post : list_all lit_sorted g.pure_post ≡ true
  pub post : list_all chunk_sorted g.post.chunks ≡ true

module _ (n : Node) (steady : IsSteady n) where
  pub sorted_goal : SortedGoal n.goal
  sorted_goal =
      let g : Goal = n.goal in
      let d = and_parts (goal_fits is_number_var is_set_var g) (list_all (link_fits is_number_var is_set_var) n.links) steady.sorted in
      let c = and_parts (list_all lit_sorted g.pure_pre && list_all chunk_sorted g.pre.chunks && list_all lit_sorted g.pure_post) (list_all chunk_sorted g.post.chunks) d.0 in
      let b = and_parts (list_all lit_sorted g.pure_pre && list_all chunk_sorted g.pre.chunks) (list_all lit_sorted g.pure_post) c.0 in
      let a = and_parts (list_all lit_sorted g.pure_pre) (list_all chunk_sorted g.pre.chunks) b.0 in
      record { pure_pre = a.0; pre = a.1; pure_post = b.1; post = c.1 }

  -- no variable of the chunks of the precondition is an existential
  pub pre_apart : (v : Var) → Among v (chunks_vars n.goal.pre.chunks) → var_in v n.goal.exist ≡ false
  pre_apart v k =
      let known = n.goal.program ++ lits_vars n.goal.pure_pre ++ chunks_vars n.goal.pre.chunks in
      false_from_ne_true (var_in v n.goal.exist) (λ e.
      both_ways (var_in v known) (not-true (var_in v known) (each_at (λ w. not (var_in w known)) v n.goal.exist steady.exist_apart (among_from_in v n.goal.exist e)))
      (in_from_among v known (Among-right v (n.goal.program ++ lits_vars n.goal.pure_pre) (chunks_vars n.goal.pre.chunks) k)))

  pub pre_chunk_fits : (i : ℕ) (c : Chunk) → slice_get n.goal.pre.chunks i ≡ Some c → FitsPre n.preds c
  pre_chunk_fits i c e =
      subst (λ (o : Option Chunk). IfSome o (FitsPre n.preds)) e (Every-slice_get (FitsPre n.preds) n.goal.pre.chunks i (sides_fit n.preds n.goal steady.fits).pre)

  pub post_chunk_fits : (i : ℕ) (c : Chunk) → slice_get n.goal.post.chunks i ≡ Some c → FitsPost n.preds c
  post_chunk_fits i c e =
      subst (λ (o : Option Chunk). IfSome o (FitsPost n.preds)) e (Every-slice_get (FitsPost n.preds) n.goal.post.chunks i (sides_fit n.preds n.goal steady.fits).post)
