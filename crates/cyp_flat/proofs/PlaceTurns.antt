-- The rules at the places from one on.
use Rattle.std.proofs.Common.{◌≡◌, ◌∙◌, ◌+◌, ◌-◌, ◌<◌, ◌++◌, ◌∷◌, ℕ, [], List, add-one, ap, arith, length, map, suc, sym}
use Rattle.cyp_heap.specs.declared.goal.Node.{Node}
use Rattle.cyp_pred.specs.Unfold.{count_from}
use Rattle.cyp_step.proofs.TableRows.{first_added}
use Rattle.cyp_step.specs.Rows.{rows}
use Rattle.cyp_step.specs.declared.rule.Row.{Row}
use Rattle.cyp_step.specs.declared.rule.Rule.{Rule}

module _ (n : Node) (f : ℕ → Rule) where
  -- the rules at the places from this one on
  abbrev pub rules_from : ℕ → List Rule
  rules_from i = map f (count_from i (length n.goal.pre.chunks - i))

  pub rules_more : (i : ℕ) → i < length n.goal.pre.chunks → rules_from i ≡ f i ∷ rules_from (i + 1)
  rules_more i lt =
      let left : length n.goal.pre.chunks - i ≡ suc (length n.goal.pre.chunks - (i + 1)) = omega arith in
      ap (λ m. map f (count_from i m)) left ∙ ap (λ j. f i ∷ map f (count_from j (length n.goal.pre.chunks - (i + 1)))) (sym (add-one i))

  -- the row at one place more
  pub place_added : (i : ℕ) (r : Rule) (all done more : List Row) → i < length n.goal.pre.chunks → r ≡ f i → done ++ rows n (rules_from i) ≡ all
      → more ≡ done ++ rows n (r ∷ []) → more ++ rows n (rules_from (i + 1)) ≡ all
  place_added i r all done more lt e h m =
      first_added n (f i) (rules_from (i + 1)) (rules_from i) all done more (rules_more i lt) h (m ∙ ap (λ q. done ++ rows n (q ∷ [])) e)
