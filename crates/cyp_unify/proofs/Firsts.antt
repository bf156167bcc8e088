-- The first items of lists that are joined.
use Rattle.std.proofs.Common.{◌≡◌, ◌∙◌, ◌++◌, ◌≤◌, ◌<◌, ℕ, zero, suc, List, [], ◌∷◌, Option, Some, None, MatchOption, length, take, drop, refl, ap, sym, arith}
use Rattle.std.specs.List.{slice_get}
use Rattle.std.proofs.lemmas.List.{length-append, take_at}

pub length_first : {A : Type 0} (n : ℕ) (xs : List A) → length (take n xs) ≤ n
length_first zero xs = omega arith
length_first (suc n) [] = omega arith
length_first (suc n) (x ∷ xs) = let rest : length (take n xs) ≤ n = length_first n xs in omega (arith, rest)

-- the first of the first ones and more are the first of all
pub first_again : {A : Type 0} (n : ℕ) (xs ys : List A) → take n (take n xs ++ ys) ≡ take n (xs ++ ys)
first_again zero xs ys = refl
first_again (suc n) [] ys = refl
first_again (suc n) (x ∷ xs) ys = ap (λ zs. x ∷ zs) (first_again n xs ys)

-- the item at a place begins the rest from there on
pub rest_there : {A : Type 0} (xs : List A) (k : ℕ) → k < length xs → (x : A) × (slice_get xs k ≡ Some x) × (drop k xs ≡ x ∷ drop (suc k) xs)
rest_there [] k lt = absurd (omega (arith, lt))
rest_there (x ∷ xs) zero lt = (x, refl, refl)
rest_there (x ∷ xs) (suc k) lt = let less : k < length xs = omega (arith, lt) in rest_there xs k less

-- what was pushed last is popped first
pub popped : {A : Type 0} (xs : List A) (k : A) (ys left : List A) (last : Option A) → ys ≡ xs ++ k ∷ [] → MatchOption last ((ys ≡ []) × (left ≡ [])) (λ x. ys ≡ left ++ x ∷ []) → left ≡ xs
popped xs k ys left None e h = absurd (omega (arith, ap length (sym e ∙ h.0), length-append xs (k ∷ [])))
popped xs k ys left (Some x) e h =
    let same : length left ≡ length xs = omega (arith, ap length (sym h ∙ e), length-append xs (k ∷ []), length-append left (x ∷ [])) in
    sym (take_at left (x ∷ []) (length xs) same) ∙ ap (take (length xs)) (sym h ∙ e) ∙ take_at xs (k ∷ []) (length xs) refl
