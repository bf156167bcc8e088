-- Variables numbered from one number up to another, one by one.
use Rattle.std.proofs.Common.{◌≡◌, ◌∙◌, ◌+◌, ◌-◌, ◌++◌, ◌<◌, ◌≤◌, ◌∷◌, ℕ, [], List, add-one, ap, append-nil, append_assoc, arith, map, suc, sym}
use Rattle.cyp_pred.specs.Unfold.{count_from}
use Rattle.cyp_term.specs.declared.term.Sort.{Sort}
use Rattle.cyp_term.specs.declared.term.Var.{Var}

module _ (s : Sort) (to : ℕ) where
  -- the variables from this number on
  abbrev pub vars_from : ℕ → List Var
  vars_from k = map (λ j. record { sort = s; number = j }) (count_from k (to - k))

  vars_more : (k : ℕ) → k < to → vars_from k ≡ record { sort = s; number = k } ∷ vars_from (k + 1)
  vars_more k lt =
      let left : to - k ≡ suc (to - (k + 1)) = omega arith in
      ap (λ m. map (λ j. record { sort = s; number = j }) (count_from k m)) left
      ∙ ap (λ i. record { sort = s; number = k } ∷ map (λ j. record { sort = s; number = j }) (count_from i (to - (k + 1)))) (sym (add-one k))

  pub var_added : (k : ℕ) (done more all : List Var) → k < to → done ++ vars_from k ≡ all → more ≡ done ++ record { sort = s; number = k } ∷ [] → more ++ vars_from (k + 1) ≡ all
  var_added k done more all lt h m =
      ap (λ vs. vs ++ vars_from (k + 1)) m ∙ append_assoc done (record { sort = s; number = k } ∷ []) (vars_from (k + 1)) ∙ ap (λ vs. done ++ vs) (sym (vars_more k lt)) ∙ h

  pub vars_added : (k : ℕ) (done all : List Var) → to ≤ k → done ++ vars_from k ≡ all → done ≡ all
  vars_added k done all le h =
      let none : to - k ≡ 0 = omega arith in
      sym (append-nil done) ∙ sym (ap (λ m. done ++ map (λ j. record { sort = s; number = j }) (count_from k m)) none) ∙ h
