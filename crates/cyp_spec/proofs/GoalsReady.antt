-- The goal of a text without faults of names, whose predicates are formed: when it can be read, and what is known where it passes a limit.
use Rattle.std.proofs.Common.{[], ◌≡◌, ◌∙◌, ◌++◌, ◌&&◌, ◌⊎◌, List, Bool, true, false, filter, flat_map, length, ℕ, ◌<◌, ◌≤◌, refl, ap, inl, inr, arith}
use Rattle.std.specs.Prelude.{nat_le}
use Rattle.std.proofs.lemmas.Bool.{lt-leb}
use Rattle.std.proofs.lemmas.List.{length-map}
use Rattle.cyp_goal.proofs.DressedNormal.{elements-other, flat-other, vars-other}
use Rattle.cyp_goal.specs.Dressed.{resized, resized_goal}
use Rattle.cyp_heap.specs.Chunks.{chunk_vars}
use Rattle.cyp_heap.specs.Goals.{goal_vars}
use Rattle.cyp_heap.specs.Limits.{chunk_elements, goal_elements, is_goal_within}
use Rattle.cyp_heap.specs.declared.goal.Goal.{Goal}
use Rattle.cyp_spec.proofs.ClauseTests.{chunks_count}
use Rattle.cyp_spec.proofs.GoalsDressed.{clamp, goal_mended}
use Rattle.cyp_reading.proofs.Lengths.{cards_length}
use Rattle.cyp_spec.proofs.TextsReadable.{body_readable, count_all}
use Rattle.cyp_reading.specs.Mended.{mended_text}
use Rattle.cyp_reading.specs.ReadableTexts.{GoalReadable}
use Rattle.cyp_spec.specs.Small.{TextSmall}
use Rattle.cyp_term.proofs.Lists.{Among-left, Among-right}
use Rattle.cyp_term.specs.Terms.{is_set_var, lit_elements, lits_vars, sort_eq, term_eq, var_eq, without_repeats}
use Rattle.cyp_term.specs.declared.term.Sort.TheVariants.{Int, Set}
use Rattle.cyp_term.specs.declared.term.Term.{Term}
use Rattle.cyp_term.specs.declared.term.Var.{Var}
use Rattle.cyp_formed.proofs.FormedScope.{goal_plain}
use Rattle.cyp_formed.proofs.FormedSorts.{name_sort}
use Rattle.cyp_formed.proofs.GoalNames.{ok}
use Rattle.cyp_names.specs.Bodies.{kept_body}
use Rattle.cyp_names.specs.NameFaults.{name_faults}
use Rattle.cyp_names.specs.ReadTerms.{read_chunks}
use Rattle.cyp_names.specs.Specifications.{count_sort, goal_scope, read_goal}
use Rattle.cyp_names.specs.Uses.{param_uses}
use Rattle.cyp_text.specs.declared.tree.TextTree.{TextTree}

-- ---- other sizes of blocks

-- the test of a goal, from what it looks at
abbrev limit_test : ℕ → ℕ → Goal → List Var → List Term → Bool
limit_test a b g vs es =
    let ws : List Var = without_repeats var_eq vs in
    nat_le a 16 && nat_le b 16 && nat_le (length g.pure_pre) 40 && nat_le (length g.pure_post) 40 && nat_le (length g.program) 12
    && nat_le (length (filter (λ (v : Var). sort_eq v.sort Int) ws)) 64 && nat_le (length (filter is_set_var ws)) 32 && nat_le (length (without_repeats term_eq es)) 32

within_resized : (g : Goal) → is_goal_within (resized_goal clamp g) ≡ is_goal_within g
within_resized g = λ i.
    limit_test (length-map g.pre.chunks (resized clamp) i) (length-map g.post.chunks (resized clamp) i) g
    (g.program ++ flat-other clamp chunk_vars (vars-other clamp) g.pre.chunks i ++ flat-other clamp chunk_vars (vars-other clamp) g.post.chunks i ++ lits_vars g.pure_pre ++ lits_vars g.pure_post)
    (flat_map lit_elements g.pure_pre ++ flat-other clamp chunk_elements (elements-other clamp) g.pre.chunks i ++ flat_map lit_elements g.pure_post ++ flat-other clamp chunk_elements (elements-other clamp) g.post.chunks i)

-- ---- the goal of a text

module _ (t : TextTree) where
  pub within_mended : is_goal_within (read_goal (mended_text t)) ≡ is_goal_within (read_goal t)
  within_mended = ap is_goal_within (goal_mended t) ∙ within_resized (read_goal t)

  -- too many chunks in the precondition
  pub many_in_pre : 16 < length t.pre.chunks → is_goal_within (read_goal t) ≡ false
  many_in_pre h =
      let g : Goal = read_goal t in
      let count : length g.pre.chunks ≡ length t.pre.chunks = cards_length 0 (read_chunks t.preds (goal_scope t) t.pre) ∙ chunks_count t.preds (goal_scope t) t.pre.chunks in
      let fails : nat_le (length g.pre.chunks) 16 ≡ false = lt-leb (length g.pre.chunks) 16 (omega (arith, count, h)) in
      let ws : List Var = without_repeats var_eq (goal_vars g) in
      ap (λ (x : Bool). x && nat_le (length g.post.chunks) 16 && nat_le (length g.pure_pre) 40 && nat_le (length g.pure_post) 40 && nat_le (length g.program) 12
      && nat_le (length (filter (λ (v : Var). sort_eq v.sort Int) ws)) 64 && nat_le (length (filter is_set_var ws)) 32 && nat_le (length (without_repeats term_eq (goal_elements g))) 32) fails

  module _ (right : name_faults t ≡ []) where
    -- too many names of a sort
    pub many_names : (64 < count_sort Int (goal_scope t)) ⊎ (64 < count_sort Set (goal_scope t)) → is_goal_within (read_goal t) ≡ false
    many_names h = by_test (is_goal_within (read_goal t)) refl h
      where
        by_test : (b : Bool) → is_goal_within (read_goal t) ≡ b → (64 < count_sort Int (goal_scope t)) ⊎ (64 < count_sort Set (goal_scope t)) → b ≡ false
        by_test false e k = refl
        by_test true e (inl k) = absurd (omega (arith, k, (ok t right e).few_ints))
        by_test true e (inr k) = absurd (omega (arith, k, (ok t right e).few_sets))

    pub goal_ready : length t.preds < 256 → TextSmall t → length t.pre.chunks ≤ 16 → count_sort Int (goal_scope t) ≤ 64 → count_sort Set (goal_scope t) ≤ 64 → GoalReadable t
    goal_ready few small chunks ints sets = record {
      few = omega (arith, count_all (goal_scope t) (goal_plain t), ints, sets);
      few_chunks = omega (arith, chunks);
      pre = body_readable t.preds few (goal_scope t) t.pre small.pre (λ u m.
          name_sort t right u (Among-left u (param_uses t.params ++ kept_body t.preds t.pre) (kept_body t.preds t.post) (Among-right u (param_uses t.params) (kept_body t.preds t.pre) m)));
      post = body_readable t.preds few (goal_scope t) t.post small.post (λ u m.
          name_sort t right u (Among-right u (param_uses t.params ++ kept_body t.preds t.pre) (kept_body t.preds t.post) m));
    }
