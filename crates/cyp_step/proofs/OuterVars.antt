-- The variables of a node outside the existentials, variable by variable.
use Rattle.std.proofs.Common.{◌≡◌, ◌∙◌, ◌+◌, ◌<◌, ◌∷◌, ℕ, zero, suc, [], Bool, List, cond, drop, false, filter, get_or, length, not, refl, sym, true, ap, arith}
use Rattle.cyp_goal.proofs.Loops.{rest_step}
use Rattle.cyp_heap.specs.Goals.{node_vars}
use Rattle.cyp_heap.specs.declared.goal.Node.{Node}
use Rattle.cyp_step.proofs.Fewer.{filter_all_new}
use Rattle.cyp_step.proofs.NextNumbers.{all_vars}
use Rattle.cyp_term.proofs.Equality.{Decides-var_eq}
use Rattle.cyp_term.specs.Terms.{var_eq, var_in, with_all_new, with_new}
use Rattle.cyp_term.specs.declared.term.Var.{Var}

-- the variable is no existential of the list
abbrev pub is_outer : List Var → Var → Bool
is_outer es v = not (var_in v es)

same_at : (vs : List Var) (i : ℕ) (d e : Var) → i < length vs → get_or vs i d ≡ get_or vs i e
same_at [] i d e lt = absurd (omega (arith, lt))
same_at (v ∷ vs) zero d e lt = refl
same_at (v ∷ vs) (suc i) d e lt = same_at vs i d e (omega (arith, lt))

module _ (es : List Var) where
  pub outer_start : (n : Node) (made vs : List Var) → made ≡ [] → es ≡ n.goal.exist → vs ≡ all_vars n
      → with_all_new var_eq made (filter (is_outer es) vs) ≡ filter (is_outer n.goal.exist) (node_vars n)
  outer_start n made vs m e d =
      (λ i. with_all_new var_eq (m i) (filter (is_outer (e i)) (d i))) ∙ sym (filter_all_new var_eq Decides-var_eq (is_outer n.goal.exist) [] (all_vars n))

  by_test : (b : Bool) (made ys : List Var) (v : Var) → with_all_new var_eq made (cond b (v ∷ ys) ys) ≡ with_all_new var_eq (cond b (with_new var_eq made v) made) ys
  by_test true made ys v = refl
  by_test false made ys v = refl

  pub outer_turn : (made more vs all : List Var) (i : ℕ) (v : Var) → with_all_new var_eq made (filter (is_outer es) (drop i vs)) ≡ all → i < length vs → v ≡ get_or vs i v
      → more ≡ cond (is_outer es v) (with_new var_eq made v) made → with_all_new var_eq more (filter (is_outer es) (drop (i + 1) vs)) ≡ all
  outer_turn made more vs all i v h lt is e =
      rest_step (λ ws ys. with_all_new var_eq ws (filter (is_outer es) ys)) vs i all made more v h lt is
      (λ ys. by_test (is_outer es v) made (filter (is_outer es) ys) v ∙ ap (λ ws. with_all_new var_eq ws (filter (is_outer es) ys)) (sym e))

  pub outer_at : (made more vs all : List Var) (i : ℕ) (d : Var) → with_all_new var_eq made (filter (is_outer es) (drop i vs)) ≡ all → i < length vs
      → more ≡ cond (is_outer es (get_or vs i d)) (with_new var_eq made (get_or vs i d)) made → with_all_new var_eq more (filter (is_outer es) (drop (i + 1) vs)) ≡ all
  outer_at made more vs all i d h lt e = outer_turn made more vs all i (get_or vs i d) h lt (same_at vs i d (get_or vs i d) lt) e
