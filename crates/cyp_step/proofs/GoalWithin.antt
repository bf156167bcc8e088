-- The goal of a node within limits is within them without companions.
use Rattle.std.proofs.Common.{◌≡◌, ◌++◌, ◌≤◌, ℕ, Bool, List, [], ◌∷◌, IsTrue, arith, append-nil, filter, flat_map, length, le_refl, le_trans, le-leb, leb-true, nat_le, not, refl}
use Rattle.std.specs.List.{list_any}
use Rattle.std.proofs.lemmas.Bool.{and_from, and_parts, cond_both}
use Rattle.std.proofs.lemmas.List.{length-append}
use Rattle.std.proofs.lemmas.List.Elements.{filter-append}
use Rattle.cyp_heap.specs.Goals.{goal_vars, image_vars, node_vars}
use Rattle.cyp_heap.specs.Limits.{goal_elements, is_within_limits, node_units}
use Rattle.cyp_heap.specs.declared.goal.Link.{Link}
use Rattle.cyp_heap.specs.declared.goal.Node.{Node}
use Rattle.cyp_term.specs.Terms.{is_set_var, term_eq, term_vars, var_eq, with_all_new, with_new, without_repeats}
use Rattle.cyp_term.specs.declared.term.Var.{Var}

-- ---- more elements leave more different ones

module _ {A : Type 0} (eq : A → A → Bool) (p : A → Bool) where
  with_new_more : (xs : List A) (y : A) → length (filter p xs) ≤ length (filter p (with_new eq xs y))
  with_new_more xs y =
      cond_both (list_any (eq y) xs) xs (xs ++ y ∷ []) (λ zs. length (filter p xs) ≤ length (filter p zs))
      (λ e. le_refl (length (filter p xs)))
      (λ e. rw (filter-append p xs (y ∷ []), length-append (filter p xs) (filter p (y ∷ []))) (omega arith))

  with_all_new_more : (xs ys : List A) → length (filter p xs) ≤ length (filter p (with_all_new eq xs ys))
  with_all_new_more xs [] = le_refl (length (filter p xs))
  with_all_new_more xs (y ∷ ys) = le_trans (with_new_more xs y) (with_all_new_more (with_new eq xs y) ys)

  pub append_more : (zs xs ys : List A) → length (filter p (with_all_new eq zs xs)) ≤ length (filter p (with_all_new eq zs (xs ++ ys)))
  append_more zs [] ys = with_all_new_more zs ys
  append_more zs (x ∷ xs) ys = append_more (with_new eq zs x) xs ys

-- ---- the goal alone

-- the node without its companions
abbrev pub alone : Node → Node
alone n = record { preds = n.preds; goal = n.goal; links = [] }

module _ (n : Node) where
  alone_vars : node_vars (alone n) ≡ without_repeats var_eq (goal_vars n.goal)
  alone_vars = rw (append-nil (goal_vars n.goal)) refl

  vars_more : (p : Var → Bool) → length (filter p (node_vars (alone n))) ≤ length (filter p (node_vars n))
  vars_more p =
      rw alone_vars (append_more var_eq p [] (goal_vars n.goal) (flat_map (λ (k : Link). flat_map term_vars k.tuple ++ image_vars k.map) n.links))

  fewer : (a b c : ℕ) → a ≤ b → IsTrue (nat_le b c) → IsTrue (nat_le a c)
  fewer a b c le t = le-leb a c (le_trans le (leb-true b c t))

  pub within_alone : IsTrue (is_within_limits n) → IsTrue (is_within_limits (alone n))
  within_alone h =
      let t9 = and_parts _ (nat_le (node_units n) 240) h in
      let t8 = and_parts _ (nat_le (length n.links) 4) t9.0 in
      let t7 = and_parts _ (nat_le (length (without_repeats term_eq (goal_elements n.goal))) 6) t8.0 in
      let t6 = and_parts _ (nat_le (length (filter is_set_var (node_vars n))) 12) t7.0 in
      let t5 = and_parts _ (nat_le (length (filter (λ v. not (is_set_var v)) (node_vars n))) 32) t6.0 in
      and_from _ _
      (and_from _ _
      (and_from _ _
      (and_from _ _
      (and_from _ _ t5.0 (fewer _ _ 32 (vars_more (λ v. not (is_set_var v))) t5.1))
      (fewer _ _ 12 (vars_more is_set_var) t6.1))
      t7.1)
      refl)
      (fewer (node_units (alone n)) (node_units n) 240 (omega arith) t9.1)
