-- Numbers counted from one.
use Rattle.std.proofs.Common.{◌≡◌, ◌∙◌, ◌+◌, ◌-◌, ◌<◌, ℕ, zero, suc, ◌∷◌, length, refl, ap, arith}
use Rattle.cyp_pred.specs.Unfold.{count_from}

-- the next number and those behind it
pub count_from-turn : (i n : ℕ) → i < n → count_from (i + 1) (n - i) ≡ (i + 1) ∷ count_from (i + 1 + 1) (n - (i + 1))
count_from-turn i n h =
    let e : n - i ≡ suc (n - (i + 1)) = omega arith in
    let s : suc (i + 1) ≡ i + 1 + 1 = omega arith in
    ap (count_from (i + 1)) e ∙ ap (λ k. (i + 1) ∷ count_from k (n - (i + 1))) s

-- so many numbers are counted
pub length-count_from : (a n : ℕ) → length (count_from a n) ≡ n
length-count_from a zero = refl
length-count_from a (suc n) = ap suc (length-count_from (suc a) n)
