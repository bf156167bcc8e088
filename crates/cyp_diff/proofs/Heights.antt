-- Places that are reached in steps of at most 2^34: among n places none is higher than n steps.
use Rattle.std.proofs.Common.{◌≡◌, ◌⊎◌, inl, inr, ℕ, zero, suc, ◌+◌, ◌*◌, ◌^◌, ◌<◌, ◌≤◌, ℤ, pos, neg_ℤ, ◌+ℤ◌, ◌≤ℤ◌, ◌<ℤ◌, int_le, Bool, true, false, refl, arith}
use Rattle.std.proofs.lemmas.Int.{ints}
use Rattle.cyp_diff.proofs.Counting.{count_below, count-most, count-one_more}

pub data Reached (n : ℕ) (v : ℕ → ℤ) (a : ℕ) : ℕ → Type 0 where
  here : Reached n v a a
  next : (p q : ℕ) → Reached n v a p → q < n → v q ≤ℤ (v p +ℤ pos (2 ^ 34)) → v p ≤ℤ (v q +ℤ pos (2 ^ 34)) → Reached n v a q

pub turned : {n : ℕ} {v : ℕ → ℤ} {a : ℕ} (q : ℕ) → Reached n v a q → Reached n (λ x. neg_ℤ (v x)) a q
turned q here = here
turned q (next p q' r lt up down) = next p q' (turned p r) lt (omega (arith, ints)) (omega (arith, ints))

reached_in : {n : ℕ} {v : ℕ → ℤ} {a : ℕ} (q : ℕ) → a < n → Reached n v a q → q < n
reached_in q h here = h
reached_in q h (next p q' r lt up down) = lt

le_cases : (a b : ℤ) → (a ≤ℤ b) ⊎ (b <ℤ a)
le_cases a b = grind (arith, ints)

-- the last place that isn't above t on the way to one that is
pub record Rung (n : ℕ) (v : ℕ → ℤ) (a : ℕ) (t : ℤ) : Type 0 where
  pub place : ℕ
  pub is_in : place < n
  pub reached : Reached n v a place
  pub not_above : v place ≤ℤ t
  pub near : t <ℤ (v place +ℤ pos (2 ^ 34))

rung : {n : ℕ} {v : ℕ → ℤ} {a : ℕ} (t : ℤ) (q : ℕ) → a < n → v a ≤ℤ t → Reached n v a q → t <ℤ v q → Rung n v a t
rung t q h low here above = absurd (omega (arith, ints))
rung {v = v} t q h low (next p q' r lt up down) above =
    elim (le_cases (v p) t) [
      | inl k ↦ record { place = p; is_in = reached_in p h r; reached = r; not_above = k; near = omega (arith, ints) }
      | inr k ↦ rung t p h low r k
    ]

-- the place isn't above t
abbrev pub is_low : (ℕ → ℤ) → ℤ → ℕ → Bool
is_low v t x = int_le (v x) t

low_true : (a b : ℤ) → a ≤ℤ b → int_le a b ≡ true
low_true a b h = grind (arith, ints)

low_false : (a b : ℤ) → b <ℤ a → int_le a b ≡ false
low_false a b h = grind (arith, ints)

low_more : (a b t : ℤ) → b ≤ℤ t → int_le a b ≡ true → int_le a t ≡ true
low_more a b t h e = grind (arith, ints)

many : {n : ℕ} {v : ℕ → ℤ} {a : ℕ} (m q : ℕ) → a < n → v a ≤ℤ pos 0 → Reached n v a q → pos (m * 2 ^ 34) <ℤ v q → m + 1 ≤ count_below (is_low v (pos (m * 2 ^ 34))) n
many {n} {v} {a} zero q h low r above =
    omega (arith, count-one_more (λ _. false) (is_low v (pos (0 * 2 ^ 34))) n a (λ y e. cc) h refl (low_true (v a) (pos (0 * 2 ^ 34)) low))
many {n} {v} {a} (suc m) q h low r above =
    let g : Rung n v a (pos (suc m * 2 ^ 34)) = rung (pos (suc m * 2 ^ 34)) q h (omega (arith, ints)) r above in
    let higher : pos (m * 2 ^ 34) <ℤ v g.place = omega (arith, ints, g.near) in
    omega (
      arith,
      many m g.place h low g.reached higher,
      count-one_more (is_low v (pos (m * 2 ^ 34))) (is_low v (pos (suc m * 2 ^ 34))) n g.place
          (λ y e. low_more (v y) (pos (m * 2 ^ 34)) (pos (suc m * 2 ^ 34)) (omega (arith, ints)) e) g.is_in
          (low_false (v g.place) (pos (m * 2 ^ 34)) higher) (low_true (v g.place) (pos (suc m * 2 ^ 34)) g.not_above),
    )

-- among 33 places none is above 33 steps
pub height : (n : ℕ) (v : ℕ → ℤ) (a q : ℕ) → n ≤ 33 → a < n → v a ≤ℤ pos 0 → Reached n v a q → v q ≤ℤ pos (33 * 2 ^ 34)
height n v a q few h low r = pick (le_cases (v q) (pos (33 * 2 ^ 34))) where
  pick : (v q ≤ℤ pos (33 * 2 ^ 34)) ⊎ (pos (33 * 2 ^ 34) <ℤ v q) → v q ≤ℤ pos (33 * 2 ^ 34)
  pick (inl k) = k
  pick (inr k) = absurd (omega (arith, many 33 q h low r k, count-most (is_low v (pos (33 * 2 ^ 34))) n))
