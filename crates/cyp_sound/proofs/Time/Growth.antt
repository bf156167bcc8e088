-- What a statement may add to the number of a run.
use Rattle.cyp_kernel.proofs.BoundEquation.{bound_law}
use Rattle.cyp_kernel.proofs.BoundGrowth.{bound_grows}
use Rattle.cyp_kernel.proofs.LowerMeasures.{lower_is_below}
use Rattle.cyp_kernel.specs.Bound.{bound, longest, times}
use Rattle.cyp_kernel.specs.Laws.{AtMostEach, IsLower, greatest_below}
use Rattle.cyp_prog.specs.Programs.{Procedure}
use Rattle.cyp_sound.proofs.Time.KeepsTime.{grown}
use Rattle.std.proofs.Common.{sym, ℕ, zero, suc, ◌+◌, ◌≤◌, max, length, List, [], ◌∷◌, replicate, arith, subst}

-- a number for each measure and number that grows with both
abbrev GrowsBoth : (List ℕ → ℕ → ℕ) → Type 0
GrowsBoth w = (ks ls : List ℕ) (y z : ℕ) → AtMostEach ks ls → y ≤ z → w ks y ≤ w ls z

most_zeros : (n y z : ℕ) → y ≤ z → AtMostEach (replicate n y) (replicate n z)
most_zeros zero y z l = tt
most_zeros (suc n) y z l = (l, most_zeros n y z l)

behind : (w : List ℕ → ℕ → ℕ) (a : ℕ) → GrowsBoth w → GrowsBoth (λ ks. w (a ∷ ks))
behind w a grow ks ls y z e l = grow (a ∷ ks) (a ∷ ls) y z (same a, e) l
  where
    same : (a : ℕ) → a ≤ a
    same a = omega arith

max-both : (a b c d : ℕ) → a ≤ c → b ≤ d → max a b ≤ max c d
max-both a b c d p q = omega arith

greatest_grows : (w : List ℕ → ℕ → ℕ) → GrowsBoth w → (m : List ℕ) (y z : ℕ) → y ≤ z → greatest_below w m y ≤ greatest_below w m z
greatest_grows w grow [] y z l = same tt
  where
    same : Unit {0} → 0 ≤ 0
    same x = omega arith
greatest_grows w grow (zero ∷ ms) y z l = greatest_grows (λ ks. w (0 ∷ ks)) (behind w 0 grow) ms y z l
greatest_grows w grow (suc a ∷ ms) y z l =
    max-both (w (a ∷ replicate (length ms) y) (suc y)) (greatest_below (λ ks. w (suc a ∷ ks)) ms y) (w (a ∷ replicate (length ms) z) (suc z)) (greatest_below (λ ks. w (suc a ∷ ks)) ms z)
    (grow (a ∷ replicate (length ms) y) (a ∷ replicate (length ms) z) (suc y) (suc z) (same a, most_zeros (length ms) y z l) (more y z l))
    (greatest_grows (λ ks. w (suc a ∷ ks)) (behind w (suc a) grow) ms y z l)
  where
    same : (a : ℕ) → a ≤ a
    same a = omega arith

    more : (y z : ℕ) → y ≤ z → suc y ≤ suc z
    more y z l = omega arith

module _ (ps : List Procedure) (start : List ℕ) where
  abbrev steps : ℕ
  steps = suc (longest ps)

  abbrev g : ℕ → ℕ
  g = grown ps start

  pub grown_nine : (z : ℕ) → z + 9 ≤ g z
  grown_nine z = left (z + 9) (greatest_below (bound steps) start z)
    where
      left : (a b : ℕ) → a ≤ max a b
      left a b = omega arith

  pub grown_call : (a : List ℕ) (z : ℕ) → IsLower z a start → bound steps a (suc z) ≤ g z
  grown_call a z l = right (bound steps a (suc z)) (z + 9) (greatest_below (bound steps) start z) (lower_is_below steps a start z l)
    where
      right : (x a b : ℕ) → x ≤ b → x ≤ max a b
      right x a b l = omega arith

  pub grown_grows : (y z : ℕ) → y ≤ z → g y ≤ g z
  grown_grows y z l =
      max-both (y + 9) (greatest_below (bound steps) start y) (z + 9) (greatest_below (bound steps) start z) (nine y z l)
      (greatest_grows (bound steps) (λ ks ls a b e h. bound_grows steps steps ks ls a b (same steps) e h) start y z l)
    where
      nine : (y z : ℕ) → y ≤ z → y + 9 ≤ z + 9
      nine y z l = omega arith

      same : (a : ℕ) → a ≤ a
      same a = omega arith

  pub times_above : (k z : ℕ) → z ≤ times k g z
  times_above zero z = same z
    where
      same : (a : ℕ) → a ≤ a
      same a = omega arith
  times_above (suc k) z = less z (g z) (times k g (g z)) (grown_nine z) (times_above k (g z))
    where
      less : (a b c : ℕ) → a + 9 ≤ b → b ≤ c → a ≤ c
      less a b c p q = omega arith

  pub times_grow : (k l y z : ℕ) → k ≤ l → y ≤ z → times k g y ≤ times l g z
  times_grow zero l y z p q = less y z (times l g z) q (times_above l z)
    where
      less : (a b c : ℕ) → a ≤ b → b ≤ c → a ≤ c
      less a b c p q = omega arith
  times_grow (suc k) zero y z p q = absurd (none k p)
    where
      none : (k : ℕ) → suc k ≤ 0 → ⊥
      none k l = omega arith
  times_grow (suc k) (suc l) y z p q = times_grow k l (g y) (g z) (less k l p) (grown_grows y z q)
    where
      less : (x y : ℕ) → suc x ≤ suc y → x ≤ y
      less x y l = omega arith

  -- a later number within what one statement may add
  pub later_in_time : (a n z y x : ℕ) → 1 ≤ a → y ≤ g z → x ≤ times n g y → x ≤ times (a + n) g z
  later_in_time a n z y x one l h =
      less x (times n g y) (times (suc n) g z) (times (a + n) g z) h (times_grow n n y (g z) (same n) l) (times_grow (suc n) (a + n) z z (more a n one) (same z))
    where
      same : (a : ℕ) → a ≤ a
      same a = omega arith

      more : (a n : ℕ) → 1 ≤ a → suc n ≤ a + n
      more a n l = omega arith

      less : (a b c d : ℕ) → a ≤ b → b ≤ c → c ≤ d → a ≤ d
      less a b c d p q r = omega arith

  last_nine : (k y : ℕ) → times k g y + 9 ≤ times k g (g y)
  last_nine zero y = grown_nine y
  last_nine (suc k) y = last_nine k (g y)

  -- the bound, one step behind its statements
  pub one_step_more : (n z x : ℕ) → n ≤ longest ps → x ≤ times n g z → suc x ≤ bound steps start z
  one_step_more n z x l h =
      subst (λ (b : ℕ). suc x ≤ b) (sym (bound_law steps start z))
      (sum x (times n g z) (times (longest ps) g z) (times (longest ps) g (g z)) h (times_grow n (longest ps) z z l (same z)) (last_nine (longest ps) z))
    where
      same : (a : ℕ) → a ≤ a
      same a = omega arith

      sum : (x a b c : ℕ) → x ≤ a → a ≤ b → b + 9 ≤ c → suc x ≤ c
      sum x a b c p q r = omega arith
