-- What integers meet before and after a bound is added, and integers that meet closed distances.
use Rattle.std.proofs.Common.{◌≡◌, ◌⊎◌, inl, inr, ℕ, zero, suc, ◌<◌, ◌≤◌, ℤ, pos, ◌+ℤ◌, ◌≤ℤ◌, ◌<ℤ◌, refl, sym, ◌∙◌, subst, arith, ◌+◌, ap, add-one}
use Rattle.std.proofs.lemmas.Int.{ints, clamps}
use Rattle.std.specs.Int.{int_min}
use Rattle.cyp_diff.specs.Distances.{none, Within}
use Rattle.cyp_diff.specs.Closed.{IsClosed}
use Rattle.cyp_diff.specs.Solution.{least}
use Rattle.cyp_diff.proofs.Closing.{Adds, lower_fin, through_fin}

-- the integers meet the distances between places below n
abbrev pub AllMeet : ℕ → (ℕ → ℤ) → (ℕ → ℕ → ℤ) → Type 0
AllMeet n x d = (a b : ℕ) → a < n → b < n → d a b <ℤ none → x a ≤ℤ (x b +ℤ d a b)

pub meets_old : (n : ℕ) (d d' : ℕ → ℕ → ℤ) (i j : ℕ) (c : ℤ) → Adds n d d' i j c → (x : ℕ → ℤ) → AllMeet n x d' → AllMeet n x d
meets_old n d d' i j c s x h a b la lb p =
    let l : d' a b ≤ℤ d a b = s.comes.lower a b in
    let k : x a ≤ℤ (x b +ℤ d' a b) = h a b la lb (lower_fin n d d' i j c s a b p) in
    omega (arith, ints)

pub meets_added : (n : ℕ) (d d' : ℕ → ℕ → ℤ) (i j : ℕ) (c : ℤ) → Adds n d d' i j c → (x : ℕ → ℤ) → AllMeet n x d' → Within x i j c
meets_added n d d' i j c s x h =
    let zi : d i i ≡ pos 0 = s.closed.same i s.first in
    let zj : d j j ≡ pos 0 = s.closed.same j s.second in
    let fi : d i i <ℤ none = omega (arith, ints) in
    let fj : d j j <ℤ none = omega (arith, ints) in
    let v : d' i j ≤ℤ ((d i i +ℤ c) +ℤ d j j) = s.comes.via i j fi fj in
    let k : x i ≤ℤ (x j +ℤ d' i j) = h i j s.first s.second (through_fin n d d' i j c s i j s.first s.second fi fj) in
    omega (arith, ints)

pub meets_new : (n : ℕ) (d d' : ℕ → ℕ → ℤ) (i j : ℕ) (c : ℤ) → Adds n d d' i j c → (x : ℕ → ℤ) → AllMeet n x d → Within x i j c → AllMeet n x d'
meets_new n d d' i j c s x h k a b la lb p =
    elim (s.comes.from a b) [
      | inl e ↦ let g : x a ≤ℤ (x b +ℤ d a b) = h a b la lb (subst (λ z. z <ℤ none) e p) in omega (arith, ints)
      | inr e ↦
          let f : x a ≤ℤ (x i +ℤ d a i) = h a i la s.first e.0 in
          let g : x j ≤ℤ (x b +ℤ d j b) = h j b s.second lb e.1 in
          let v : d' a b ≡ ((d a i +ℤ c) +ℤ d j b) = e.2 in
          let k' : x i ≤ℤ (x j +ℤ c) = k in
          omega (arith, ints)
    ]

-- a way back that is shorter than the new bound allows
pub meets_none : (n : ℕ) (d : ℕ → ℕ → ℤ) (i j : ℕ) (c : ℤ) → i < n → j < n → d j i <ℤ none → (d j i +ℤ c) <ℤ pos 0 → (x : ℕ → ℤ) → AllMeet n x d → Within x i j c → ⊥
meets_none n d i j c li lj fin short x h k =
    let g : x j ≤ℤ (x i +ℤ d j i) = h j i lj li fin in
    let k' : x i ≤ℤ (x j +ℤ c) = k in
    absurd (omega (arith, ints))

pub least-step : (v : ℕ → ℤ) (k : ℕ) → least v (k + 1) ≡ int_min (v k) (least v k)
unfolding least
least-step v k = ap (least v) (add-one k)

pub least-none : (v : ℕ → ℤ) → least v 0 ≡ pos 0
unfolding least
least-none v = refl

pub least-low : (v : ℕ → ℤ) (n : ℕ) → least v n ≤ℤ pos 0
unfolding least
least-low v zero = omega (arith, ints)
least-low v (suc n) = let h : least v n ≤ℤ pos 0 = least-low v n in omega (arith, ints, clamps)

least_at : (x n : ℕ) → x < suc n → (x ≡ n) ⊎ (x < n)
least_at x n h = grind arith

pub least-bound : (v : ℕ → ℤ) (n b : ℕ) → b < n → least v n ≤ℤ v b
unfolding least
least-bound v zero b h = absurd (omega arith)
least-bound v (suc n) b h =
    elim (least_at b n h) [
      | inl e ↦ subst (λ k. int_min (v n) (least v n) ≤ℤ v k) (sym e) (omega (arith, ints, clamps))
      | inr k ↦ let g : least v n ≤ℤ v b = least-bound v n b k in omega (arith, ints, clamps)
    ]

min_cases : (a b : ℤ) → (int_min a b ≡ a) ⊎ (int_min a b ≡ b)
min_cases a b = grind (arith, ints, clamps)

pub least-reached : (v : ℕ → ℤ) (n : ℕ) → (least v n ≡ pos 0) ⊎ ((b : ℕ) × (b < n) × (least v n ≡ v b))
unfolding least
least-reached v zero = inl refl
least-reached v (suc n) =
    elim (min_cases (v n) (least v n)) [
      | inl e ↦ inr (n, omega arith, e)
      | inr e ↦ elim (least-reached v n) [ inl f ↦ inl (e ∙ f) | inr f ↦ inr (f.0, omega (arith, f.1), e ∙ f.2) ]
    ]

lt_or_le : (a n : ℕ) → (a < n) ⊎ (n ≤ a)
lt_or_le a n = grind arith

-- a distance that bounds is one to a place
pub inside : (n : ℕ) (d : ℕ → ℕ → ℤ) → IsClosed n d → (b r : ℕ) → d b r <ℤ none → r < n
inside n d h b r q = elim (lt_or_le r n) [ inl k ↦ k | inr k ↦ let e : d b r ≡ none = h.beyond b r k in absurd (omega (arith, ints)) ]

-- the least of each row of closed distances
pub solution_meets : (n m : ℕ) (d : ℕ → ℕ → ℤ) → n ≤ m → IsClosed n d → AllMeet n (λ a. least (d a) m) d
solution_meets n m d le h a b la lb p =
    let low : least (d b) m ≤ℤ pos 0 = least-low (d b) m in
    elim (least-reached (d b) m) [
      | inl e ↦
          let k : least (d a) m ≤ℤ d a b = least-bound (d a) m b (omega arith) in omega (arith, ints)
      | inr e ↦
          let r : ℕ = e.0 in
          let g : least (d b) m ≡ d b r = e.2 in
          let q : d b r <ℤ none = omega (arith, ints) in
          let t : (d a r <ℤ none) × (d a r ≤ℤ (d a b +ℤ d b r)) = h.through a b r la lb (inside n d h b r q) p q in
          let u : d a r ≤ℤ (d a b +ℤ d b r) = t.1 in
          let k : least (d a) m ≤ℤ d a r = least-bound (d a) m r e.1 in
          omega (arith, ints)
    ]
