-- The loop down a solved tree.
use Rattle.std.proofs.Common.{◌≡◌, ◌∙◌, ◌++◌, ◌≤◌, ℕ, suc, List, [], ◌∷◌, IsTrue, Option, Some, None, MatchOption, length, refl, sym, ap, subst, arith}
use Rattle.std.specs.Prelude.{slice_get}
use Rattle.std.proofs.lemmas.Option.{none-some, same_Some}
use Rattle.cyp_heap.specs.declared.goal.Node.{Node}
use Rattle.cyp_kernel.specs.Compile.{bound_count}
use Rattle.cyp_prog.specs.ProgramText.{Bytes}
use Rattle.cyp_space.specs.declared.solved.Solved.{Solved}
use Rattle.cyp_space.specs.declared.solved.Solved.TheViews.{out-Solved}
use Rattle.cyp_step.specs.RuleKinds.{IsFlatRule}
use Rattle.cyp_step.specs.declared.rule.Rule.{Rule}
use Rattle.cyp_tree.specs.Derivations.{plain_derivation, plain_derivations}
use Rattle.cyp_print.specs.Lines.{names_at, next_numbers, own_lines}
use Rattle.cyp_print.proofs.SolvedTrees.{derived, solved_further, solved_last, solved_root}
use Rattle.cyp_print.proofs.Steps.{IsAt, ends, flat_at, step_keeps}

-- ---- the first part

-- a list with a first element
with_first : {A : Type 0} (xs : List A) (x : A) → Some x ≡ slice_get xs 0 → (rest : List A) × (xs ≡ x ∷ rest)
with_first [] x e = absurd (none-some x (sym e))
with_first (y ∷ ys) x e = (ys, ap (λ z. z ∷ ys) (sym (same_Some x y e)))

no_items : {A : Type 0} (xs : List A) → length xs ≤ 0 → xs ≡ []
no_items [] h = refl
no_items (x ∷ xs) h = let bad : ⊥ = omega arith in absurd bad

-- a list without one
pub without_first : {A B : Type 0} (xs : List A) (o : Option B) (Q : B → Type 0) → ((x : B) → o ≡ Some x → ⊥) → MatchOption o (length xs ≤ 0) Q → xs ≡ []
without_first xs None Q none h = no_items xs h
without_first xs (Some x) Q none h = absurd (none x refl)

-- ---- one turn

module _ (s : Solved Rule Node) (whole : Bytes) (start : ℕ) (text : Bytes) (numbers : List ℕ) (count : ℕ) (at : IsAt whole start text numbers count (plain_derivation s)) where
  -- each program variable of the root has a number
  pub named_at : (n : Node) → n ≡ (out-Solved Rule Node s).node → length numbers ≡ length n.goal.program
  named_at n ne = at.named ∙ ap (λ (m : Node). length m.goal.program) (solved_root s ∙ sym ne)

  -- the rule unfolds and calls nothing
  pub rule_at : IsFlatRule (out-Solved Rule Node s).rule
  rule_at =
      flat_at whole start text numbers count (out-Solved Rule Node s).node (out-Solved Rule Node s).rule (plain_derivations (out-Solved Rule Node s).parts)
      (subst (IsAt whole start text numbers count) (derived s) at)

  -- down to the first part
  pub further : (part : Solved Rule Node) (parts : List (Solved Rule Node)) (n : Node) (text' : Bytes) (numbers' : List ℕ) (count' : ℕ)
      → n ≡ (out-Solved Rule Node s).node → parts ≡ (out-Solved Rule Node s).parts → Some part ≡ slice_get parts 0
      → text' ≡ text ++ own_lines (names_at n numbers) (suc count) n (out-Solved Rule Node s).rule → numbers' ≡ next_numbers n (out-Solved Rule Node s).rule numbers (suc count)
      → count' ≡ bound_count (out-Solved Rule Node s).rule count → IsAt whole start text' numbers' count' (plain_derivation part)
  further part parts n text' numbers' count' ne pe first te ke ce =
      let split : (rest : List (Solved Rule Node)) × (parts ≡ part ∷ rest) = with_first parts part first in
      step_keeps n (out-Solved Rule Node s).rule (plain_derivation part) (plain_derivations split.0) whole start text text' numbers numbers' count count'
      (subst (IsAt whole start text numbers count) (solved_further s n part split.0 ne (sym pe ∙ split.1)) at) te ke ce

  -- the last lines
  pub finished : (parts : List (Solved Rule Node)) (n : Node) (text' : Bytes) (given : List ℕ) (new : ℕ)
      → n ≡ (out-Solved Rule Node s).node → parts ≡ (out-Solved Rule Node s).parts → parts ≡ [] → given ≡ numbers → new ≡ suc count
      → text' ≡ text ++ own_lines (names_at n given) new n (out-Solved Rule Node s).rule → text' ≡ whole
  finished parts n text' given new ne pe none ge ke te =
      ends n (out-Solved Rule Node s).rule whole start text text' numbers count
      (subst (IsAt whole start text numbers count) (solved_last s n ne (sym pe ∙ none)) at)
      (te ∙ (λ k. text ++ own_lines (names_at n (ge k)) (ke k) n (out-Solved Rule Node s).rule))
