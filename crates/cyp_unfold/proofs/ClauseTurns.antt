-- The rules that fold the focus, clause by clause.
use Rattle.std.proofs.Common.{◌≡◌, ◌∙◌, ◌+◌, ◌-◌, ◌++◌, ◌<◌, ◌≤◌, ◌∷◌, ℕ, [], List, add-one, ap, append-nil, append_assoc, arith, map, suc, sym}
use Rattle.cyp_pred.specs.Unfold.{count_from}
use Rattle.cyp_step.specs.declared.rule.Rule.{Rule}
use Rattle.cyp_step.specs.declared.rule.Rule.TheVariants.{ByClose}

module _ (count : ℕ) where
  -- the rules from this clause on
  abbrev pub closings_from : ℕ → List Rule
  closings_from k = map ByClose (count_from k (count - k))

  closings_more : (k : ℕ) → k < count → closings_from k ≡ ByClose k ∷ closings_from (k + 1)
  closings_more k lt =
      let left : count - k ≡ suc (count - (k + 1)) = omega arith in
      ap (λ m. map ByClose (count_from k m)) left ∙ ap (λ j. ByClose k ∷ map ByClose (count_from j (count - (k + 1)))) (sym (add-one k))

  pub clause_added : (k : ℕ) (done more all : List Rule) → k < count → done ++ closings_from k ≡ all → more ≡ done ++ ByClose k ∷ [] → more ++ closings_from (k + 1) ≡ all
  clause_added k done more all lt h m =
      ap (λ rs. rs ++ closings_from (k + 1)) m ∙ append_assoc done (ByClose k ∷ []) (closings_from (k + 1)) ∙ ap (λ rs. done ++ rs) (sym (closings_more k lt)) ∙ h

  pub clauses_end : (k : ℕ) (done all : List Rule) → count ≤ k → done ++ closings_from k ≡ all → done ≡ all
  clauses_end k done all le h =
      let none : count - k ≡ 0 = omega arith in
      sym (append-nil done) ∙ sym (ap (λ m. done ++ map ByClose (count_from k m)) none) ∙ h
