-- How many elements a list has without repeats.
use Rattle.std.proofs.Common.{◌∙◌, ◌<◌, ℕ, ap, drop, get_or, nat_le, sym, ◌≡◌, [], ◌∷◌, ◌++◌, List, Bool, true, false, cond, length, ◌≤◌, ◌+◌, arith}
use Rattle.std.specs.List.{list_any}
use Rattle.std.proofs.lemmas.Bool.{lt-leb}
use Rattle.std.proofs.lemmas.List.{length-append}
use Rattle.cyp_term.proofs.Turns.{drop_here}
use Rattle.cyp_term.specs.Terms.{with_all_new, with_new, without_repeats}

module _ {X : Type 0} (eq : X → X → Bool) where
  new_most : (xs : List X) (y : X) (t : Bool) → length (cond t xs (xs ++ y ∷ [])) ≤ length xs + 1
  new_most xs y true = omega arith
  new_most xs y false = omega (arith, length-append xs (y ∷ []))

  new_least : (xs : List X) (y : X) (t : Bool) → length xs ≤ length (cond t xs (xs ++ y ∷ []))
  new_least xs y true = omega arith
  new_least xs y false = omega (arith, length-append xs (y ∷ []))

  all_new_most : (xs ys : List X) → length (with_all_new eq xs ys) ≤ length xs + length ys
  all_new_most xs [] = omega arith
  all_new_most xs (y ∷ ys) =
      let h : length (with_all_new eq (with_new eq xs y) ys) ≤ length (with_new eq xs y) + length ys = all_new_most (with_new eq xs y) ys in
      let k : length (with_new eq xs y) ≤ length xs + 1 = new_most xs y (list_any (eq y) xs) in
      omega (arith, h, k)

  pub all_new_least : (xs ys : List X) → length xs ≤ length (with_all_new eq xs ys)
  all_new_least xs [] = omega arith
  all_new_least xs (y ∷ ys) =
      let h : length (with_new eq xs y) ≤ length (with_all_new eq (with_new eq xs y) ys) = all_new_least (with_new eq xs y) ys in
      let k : length xs ≤ length (with_new eq xs y) = new_least xs y (list_any (eq y) xs) in
      omega (arith, h, k)

  pub no_more_different : (xs : List X) → length (without_repeats eq xs) ≤ length xs
  no_more_different xs = omega (arith, all_new_most [] xs)

  -- so many are different already
  pub too_many : (xs : List X) (i : ℕ) (d : X) (old new : List X) (most : ℕ) → i < length xs → d ≡ get_or xs i d → new ≡ with_new eq old d
      → with_all_new eq old (drop i xs) ≡ without_repeats eq xs → most < length new → false ≡ nat_le (length (without_repeats eq xs)) most
  too_many xs i d old new most l at added made more =
      let rest : List X = drop (i + 1) xs in
      let whole : with_all_new eq new rest ≡ without_repeats eq xs =
      ap (λ (us : List X). with_all_new eq us rest) added ∙ ap (λ (x : X). with_all_new eq (with_new eq old x) rest) at ∙ sym (ap (with_all_new eq old) (drop_here xs i d l)) ∙ made in
      let least : length new ≤ length (with_all_new eq new rest) = all_new_least new rest in
      let same : length (with_all_new eq new rest) ≡ length (without_repeats eq xs) = ap length whole in
      sym (lt-leb (length (without_repeats eq xs)) most (omega (arith, least, same, more)))
