-- What the program variables of a premise are called.
use Rattle.std.proofs.Common.{◌≡◌, ◌∙◌, ◌++◌, ℕ, List, [], ◌∷◌, Bool, true, false, length, map, Option, Some, None, cond, refl, sym, ap, arith, inl, inr}
use Rattle.std.specs.Prelude.{zip}
use Rattle.std.proofs.lemmas.Bool.{cond-true}
use Rattle.std.proofs.lemmas.List.{length-map}
use Rattle.std.proofs.lemmas.Option.{option_and_then_some}
use Rattle.cyp_goal.proofs.Renumber.{map_where}
use Rattle.cyp_goal.specs.Normal.{Renaming}
use Rattle.cyp_heap.specs.declared.goal.Node.{Node}
use Rattle.cyp_kernel.specs.Companions.{Proof}
use Rattle.cyp_kernel.specs.Compile.{head_names, is_binder, renamings, with_new_name}
use Rattle.cyp_kernel.specs.Naming.{Names, name_of}
use Rattle.cyp_step.specs.Changes.{new_int}
use Rattle.cyp_step.specs.Step.{all_normal, raws, renamed_premises}
use Rattle.cyp_step.specs.declared.rule.Rule.{Rule}
use Rattle.cyp_term.proofs.Equality.{Decides-var_eq}
use Rattle.cyp_term.proofs.Lists.{Among}
use Rattle.cyp_term.specs.Terms.{var_eq}
use Rattle.cyp_term.specs.declared.term.Var.{Var}
use Rattle.cyp_tree.specs.Follows.{root}
use Rattle.cyp_print.specs.Lines.{names_at, next_numbers, number_or, old_names, old_variables}
use Rattle.cyp_print.proofs.ChainOf.{GoesOn}
use Rattle.cyp_print.proofs.Looking.{named_or_zero}
use Rattle.cyp_print.proofs.NewProgram.{old_or_new}
use Rattle.cyp_print.proofs.OldProgram.{old_length_in}

-- ---- a variable's number

-- with one more name
number_or-new : (vars : List Var) (numbers : List ℕ) (y : Var) (new : ℕ) (v : Var) → length numbers ≡ length vars → Among v (vars ++ y ∷ [])
    → number_or (zip vars numbers) new v ≡ name_of (zip vars numbers ++ (y, new) ∷ []) v
number_or-new [] [] y new v e (inl h) = sym (cond-true (var_eq y v) new 0 ((Decides-var_eq y v).1 (sym h)))
number_or-new [] [] y new v e (inr h) = absurd h
number_or-new [] (k ∷ ks) y new v e h = let bad : ⊥ = omega arith in absurd bad
number_or-new (w ∷ ws) [] y new v e h = let bad : ⊥ = omega arith in absurd bad
number_or-new (w ∷ ws) (k ∷ ks) y new v e (inl h) =
    let t = (Decides-var_eq w v).1 (sym h) in
    cond-true (var_eq w v) k (number_or (zip ws ks) new v) t
    ∙ sym (cond-true (var_eq w v) k (name_of (zip ws ks ++ (y, new) ∷ []) v) t)
number_or-new (w ∷ ws) (k ∷ ks) y new v e (inr h) = ap (cond (var_eq w v) k) (number_or-new ws ks y new v (omega arith) h)

-- ---- the numbers at the premise

module _ (n : Node) (r : Rule) (numbers : List ℕ) (new : ℕ) (named : length numbers ≡ length n.goal.program) where
  abbrev inner : Bool → Names
  inner b = cond b (names_at n numbers ++ (new_int n, new) ∷ []) (names_at n numbers)

  by_binder : (b : Bool) → is_binder r ≡ b → (x : Renaming) (xs : List Renaming) → renamed_premises n r ≡ Some (x ∷ xs)
      → map (number_or (names_at n numbers) (cond b new 0)) x.old ≡ map (name_of (inner b)) x.old
  by_binder true e x xs p =
      map_where (number_or (names_at n numbers) new) (name_of (inner true)) x.old
      (λ v k. number_or-new n.goal.program numbers (new_int n) new v named (old_or_new n r x xs e p v k))
  by_binder false e x xs p = map_where (number_or (names_at n numbers) 0) (name_of (inner false)) x.old (λ v k. named_or_zero (names_at n numbers) v)

  by_premises : (o : Option (List Renaming)) → renamed_premises n r ≡ o
      → map (number_or (names_at n numbers) (cond (is_binder r) new 0)) (old_names (renamings o)) ≡ map (name_of (inner (is_binder r))) (old_names (renamings o))
  by_premises None e = refl
  by_premises (Some []) e = refl
  by_premises (Some (x ∷ xs)) e = by_binder (is_binder r) refl x xs e

  -- a variable without a name is the new one
  pub numbers_kept : map (number_or (names_at n numbers) (cond (is_binder r) new 0)) (old_variables n r) ≡ next_numbers n r numbers new
  numbers_kept = by_premises (renamed_premises n r) refl

  -- the same, from what stands for each part
  pub numbers_given : (program vars : List Var) (otherwise : ℕ) (ns : List ℕ) → program ≡ n.goal.program → vars ≡ old_variables n r → otherwise ≡ cond (is_binder r) new 0
      → ns ≡ map (number_or (zip program numbers) otherwise) vars → ns ≡ next_numbers n r numbers new
  numbers_given program vars otherwise ns pe ve oe e = e ∙ (λ k. map (number_or (zip (pe k) numbers) (oe k)) (ve k)) ∙ numbers_kept

-- ---- the premise in the derivation

module _ (n : Node) (r : Rule) (d : Proof) (numbers : List ℕ) (new : ℕ) (on : GoesOn n r d) where
  -- the names at the premise
  pub names_next : head_names (with_new_name n r new (names_at n numbers)) (renamings (renamed_premises n r)) ≡ names_at (root d) (next_numbers n r numbers new)
  names_next =
      let names : Names = with_new_name n r new (names_at n numbers) in
      ap (λ o. head_names names (renamings o)) on.leads
      ∙ (λ k. zip (sym on.below k).goal.program (map (name_of names) (old_names (renamings (sym on.leads k)))))

  -- each program variable of the premise has a number
  pub numbers_next : length (next_numbers n r numbers new) ≡ length (root d).goal.program
  numbers_next =
      length-map (old_variables n r) (name_of (with_new_name n r new (names_at n numbers)))
      ∙ ap (λ o. length (old_names (renamings o))) on.leads
      ∙ option_and_then_some all_normal (raws n r) (on.renaming ∷ on.rest) on.leads (λ ms left normals. old_length_in ms on.renaming on.rest normals)
      ∙ ap (λ (m : Node). length m.goal.program) (sym on.below)
