-- Bits that numbers have in common, and numbers with given bits.
use Rattle.std.proofs.Common.{◌≡◌, ℕ, zero, suc, ◌+◌, ◌-◌, ◌*◌, ◌^◌, ◌<◌, ◌==◌, Bool, true, false, cond, not, ◌||◌, min, max, refl, sym, ap, ap₂, ◌∙◌, inl, inr, lit<, eq-eqb, arith}
use Rattle.std.specs.Int.{bit_at}
use Rattle.std.specs.Int.Bits.{bit_and, bit_or, and_zero_r}
use Rattle.std.proofs.Math.Nat.{zero-mul, one-mul, sub_self}
use Rattle.std.proofs.Math.Pow.{pow_pos}
use Rattle.std.proofs.lemmas.Bool.{cases_eq, cases_lt, ne_eqb}
use Rattle.std.proofs.lemmas.Nat.{le_or_l}
use Rattle.std.proofs.lemmas.Nat.Bits.{and_pow, bit_at_and, bit_at_cat_high, bit_at_cat_low, bit_at_or, bit_at-pow_other, bit_at-pow_same, same_from_bits}
use Rattle.cyp_sets.specs.Masks.{share}

-- ---- a number that is joined of two

min-max : (m a b : ℕ) → min m (max a b) ≡ max (min m a) (min m b)
min-max m a b = omega arith

and-or : (m a b : ℕ) → bit_and m (bit_or a b) ≡ bit_or (bit_and m a) (bit_and m b)
and-or m a b = same_from_bits _ _ (λ i.
    bit_at_and m (bit_or a b) i ∙ ap (min (bit_at m i)) (bit_at_or a b i) ∙ min-max (bit_at m i) (bit_at a i) (bit_at b i)
    ∙ sym (bit_at_or (bit_and m a) (bit_and m b) i ∙ ap₂ max (bit_at_and m a i) (bit_at_and m b i)))

some_bit : (a b : ℕ) → not (bit_or a b == 0) ≡ (not (a == 0) || not (b == 0))
some_bit zero b = refl
some_bit (suc a) b = ap not (ne_eqb (bit_or (suc a) b) 0 (λ e. absurd (omega (arith, le_or_l (suc a) b)))) ∙ sym (ap (λ t. not t || not (b == 0)) (ne_eqb (suc a) 0 (λ e. absurd (omega arith))))

pub share-or : (m a b : ℕ) → share m (bit_or a b) ≡ (share m a || share m b)
share-or m a b = ap (λ n. not (n == 0)) (and-or m a b) ∙ some_bit (bit_and m a) (bit_and m b)

pub share-zero : (m : ℕ) → share m 0 ≡ false
share-zero m = ap (λ n. not (n == 0)) (and_zero_r m)

-- ---- one bit

pub share-bit : (m k : ℕ) → bit_at m k ≡ 1 → share m (2 ^ k) ≡ true
share-bit m k e =
    let positive : 0 < 2 ^ k = pow_pos k in
    ap not (ne_eqb (bit_and m (2 ^ k)) 0 (λ z. absurd (omega (arith, sym z ∙ and_pow m k ∙ ap (λ n. n * 2 ^ k) e ∙ one-mul (2 ^ k)))))

pub share-no_bit : (m k : ℕ) → bit_at m k ≡ 0 → share m (2 ^ k) ≡ false
share-no_bit m k e = ap (λ n. not (n == 0)) (and_pow m k ∙ ap (λ n. n * 2 ^ k) e ∙ zero-mul (2 ^ k))

pub share-pow : (i j : ℕ) → share (2 ^ i) (2 ^ j) ≡ (i == j)
share-pow i j =
    elim (cases_eq i j) [
      | inl e ↦ share-bit (2 ^ i) j (ap (λ n. bit_at (2 ^ n) j) e ∙ bit_at-pow_same j) ∙ sym (eq-eqb i j e)
      | inr n ↦ share-no_bit (2 ^ i) j (bit_at-pow_other i j (λ e. n (sym e))) ∙ sym (ne_eqb i j n)
    ]

-- ---- the number whose bits below n a test gives

unfoldable pub mask_by : (ℕ → Bool) → ℕ → ℕ
mask_by p zero = 0
mask_by p (suc n) = cond (p n) 1 0 * 2 ^ n + mask_by p n

double : (n : ℕ) → 2 ^ suc n ≡ 2 ^ n + 2 ^ n
double n = grind arith

bit_small : (t : Bool) → cond t 1 0 < 2
bit_small true = lit< tt
bit_small false = lit< tt

top_small : (t : Bool) (w m : ℕ) → m < w → cond t 1 0 * w + m < w + w
top_small true w m h = omega (arith, one-mul w)
top_small false w m h = omega (arith, zero-mul w)

pub mask_by-lt : (p : ℕ → Bool) (n : ℕ) → mask_by p n < 2 ^ n
unfolding mask_by
mask_by-lt p zero = lit< tt
mask_by-lt p (suc n) = omega (arith, double n, top_small (p n) (2 ^ n) (mask_by p n) (mask_by-lt p n))

bit_of : (t : Bool) → bit_at (cond t 1 0) 0 ≡ cond t 1 0
bit_of true = refl
bit_of false = refl

bit_at-mask_by : (p : ℕ → Bool) (n k : ℕ) → k < n → bit_at (mask_by p n) k ≡ cond (p k) 1 0
unfolding mask_by
bit_at-mask_by p zero k h = absurd (omega arith)
bit_at-mask_by p (suc n) k h =
    elim (cases_lt k n) [
      | inl l ↦ bit_at_cat_low (cond (p n) 1 0) n (mask_by p n) k l ∙ bit_at-mask_by p n k l
      | inr g ↦ let same : k ≡ n = omega arith in
          bit_at_cat_high (cond (p n) 1 0) n (mask_by p n) k (mask_by-lt p n) g
          ∙ ap₂ (λ i t. bit_at (cond (p t) 1 0) i) (ap (λ i. i - n) same ∙ sub_self n) (sym same) ∙ bit_of (p k)
    ]

share_bit_by : (m k : ℕ) (t : Bool) → bit_at m k ≡ cond t 1 0 → share m (2 ^ k) ≡ t
share_bit_by m k true e = share-bit m k e
share_bit_by m k false e = share-no_bit m k e

pub share-mask_by : (p : ℕ → Bool) (n k : ℕ) → k < n → share (mask_by p n) (2 ^ k) ≡ p k
share-mask_by p n k h = share_bit_by (mask_by p n) k (p k) (bit_at-mask_by p n k h)
