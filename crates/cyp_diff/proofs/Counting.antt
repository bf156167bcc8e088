-- How many numbers below a bound pass a test.
use Rattle.std.proofs.Common.{◌≡◌, ◌⊎◌, ℕ, zero, suc, ◌+◌, ◌<◌, ◌≤◌, Bool, true, false, cond, inl, inr, refl, sym, ap, ◌∙◌, arith}

pub count_below : (ℕ → Bool) → ℕ → ℕ
count_below p zero = 0
count_below p (suc n) = cond (p n) 1 0 + count_below p n

one_or_none : (b : Bool) → cond b 1 0 ≤ 1
one_or_none true = omega arith
one_or_none false = omega arith

pub count-most : (p : ℕ → Bool) (n : ℕ) → count_below p n ≤ n
unfolding count_below
count-most p zero = omega arith
count-most p (suc n) = omega (arith, count-most p n, one_or_none (p n))

as_many : (b c : Bool) → (b ≡ true → c ≡ true) → cond b 1 0 ≤ cond c 1 0
as_many true true h = omega arith
as_many true false h = absurd (cc (h refl))
as_many false true h = omega arith
as_many false false h = omega arith

pub count-more : (p q : ℕ → Bool) (n : ℕ) → ((x : ℕ) → p x ≡ true → q x ≡ true) → count_below p n ≤ count_below q n
unfolding count_below
count-more p q zero h = omega arith
count-more p q (suc n) h = omega (arith, count-more p q n h, as_many (p n) (q n) (h n))

last_or_below : (x n : ℕ) → x < suc n → (x ≡ n) ⊎ (x < n)
last_or_below x n h = grind arith

here_more : (b c : Bool) (k l : ℕ) → b ≡ false → c ≡ true → k ≤ l → cond b 1 0 + k + 1 ≤ cond c 1 0 + l
here_more false true k l e f h = omega arith
here_more true c k l e f h = absurd (cc e)
here_more false false k l e f h = absurd (cc f)

-- where the second passes at one more number
pub count-one_more : (p q : ℕ → Bool) (n x : ℕ) → ((y : ℕ) → p y ≡ true → q y ≡ true) → x < n → p x ≡ false → q x ≡ true → count_below p n + 1 ≤ count_below q n
unfolding count_below
count-one_more p q zero x h lt e f = absurd (omega arith)
count-one_more p q (suc n) x h lt e f =
    elim (last_or_below x n lt) [
      | inl s ↦ here_more (p n) (q n) (count_below p n) (count_below q n) (ap p (sym s) ∙ e) (ap q (sym s) ∙ f) (count-more p q n (λ y g. h y g))
      | inr s ↦ omega (arith, count-one_more p q n x h s e f, as_many (p n) (q n) (h n))
    ]
