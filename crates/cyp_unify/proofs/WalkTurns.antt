-- Walks over the positions of two lists that are walked together.
use Rattle.std.proofs.Common.{◌≡◌, ◌∙◌, ◌+◌, ◌<◌, ◌++◌, ℕ, true, List, [], ◌∷◌, length, get_or, drop, min, refl, ap, sym, inl, inr, arith}
use Rattle.std.proofs.lemmas.Bool.{cases_lt}
use Rattle.std.proofs.lemmas.List.{at_drop_all, drop_more}
use Rattle.cyp_term.specs.declared.term.Var.{Var}
use Rattle.cyp_unify.specs.Matches.{Position, Walk, walk, walk_step}
use Rattle.cyp_unify.specs.Walking.{wide_walk}
use Rattle.cyp_unify.proofs.Growing.{walk_wide}

pub walk_two : (exist : List Var) (w : Walk) (ps qs : List Position) → walk exist w (ps ++ qs) ≡ walk exist (walk exist w ps) qs
walk_two exist w [] qs = refl
walk_two exist w (p ∷ ps) qs = walk_two exist (walk_step exist w p) ps qs

-- what is wide after the first positions is wide after all
pub two_wide : (exist : List Var) (w : Walk) (ps qs : List Position) → wide_walk (walk exist w ps) ≡ true → wide_walk (walk exist w (ps ++ qs)) ≡ true
two_wide exist w ps qs h = ap wide_walk (walk_two exist w ps qs) ∙ walk_wide exist (walk exist w ps) qs h

module _ {X Y : Type 0} (exist : List Var) (F : List X → List Y → List Position) (P : X → Y → List Position) (xs : List X) (ys : List Y) (n : ℕ) (w whole : Walk) (h : walk exist w (F (drop n xs) (drop n ys)) ≡ whole) where
  module _ (each : (x : X) (y : Y) (us : List X) (vs : List Y) → F (x ∷ us) (y ∷ vs) ≡ P x y ++ F us vs) (x : X) (y : Y) (lt : n < length xs) (mt : n < length ys) (is : x ≡ get_or xs n x) (it : y ≡ get_or ys n y) where
    first : x ∷ drop (n + 1) xs ≡ drop n xs
    first = ap (λ z. z ∷ drop (n + 1) xs) is ∙ sym (drop_more xs n x lt)

    second : y ∷ drop (n + 1) ys ≡ drop n ys
    second = ap (λ z. z ∷ drop (n + 1) ys) it ∙ sym (drop_more ys n y mt)

    -- one more of both
    pub turned : (v : Walk) → v ≡ walk exist w (P x y) → walk exist v (F (drop (n + 1) xs) (drop (n + 1) ys)) ≡ whole
    turned v e =
        ap (λ u. walk exist u (F (drop (n + 1) xs) (drop (n + 1) ys))) e
        ∙ sym (walk_two exist w (P x y) (F (drop (n + 1) xs) (drop (n + 1) ys)))
        ∙ ap (walk exist w) (sym (each x y (drop (n + 1) xs) (drop (n + 1) ys)) ∙ (λ i. F (first i) (second i)))
        ∙ h

    pub turned_wide : wide_walk (walk exist w (P x y)) ≡ true → wide_walk whole ≡ true
    turned_wide k = ap wide_walk (sym (turned (walk exist w (P x y)) refl)) ∙ walk_wide exist (walk exist w (P x y)) (F (drop (n + 1) xs) (drop (n + 1) ys)) k

  -- one of them has ended
  pub ended : ((vs : List Y) → F [] vs ≡ []) → ((us : List X) → F us [] ≡ []) → n ≡ min (length xs) (length ys) → w ≡ whole
  ended f g e =
      elim (cases_lt (length xs) (length ys)) as (λ _. w ≡ whole) [
        | inl lt ↦ sym (ap (walk exist w) (at_drop_all (λ us. F us (drop n ys)) xs n (omega arith) ∙ f (drop n ys))) ∙ h
        | inr le ↦ sym (ap (walk exist w) (at_drop_all (F (drop n xs)) ys n (omega arith) ∙ g (drop n xs))) ∙ h
      ]
