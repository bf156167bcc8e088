-- A crowd that grows by a place, and one that is too large.
use Rattle.std.proofs.Common.{◌≡◌, ◌⊎◌, inl, inr, ℕ, zero, suc, ◌+◌, ◌<◌, ◌≤◌, ℤ, pos, negsuc, ◌+ℤ◌, ◌-ℤ◌, ◌≤ℤ◌, ◌<ℤ◌, int_eq, Bool, true, false, cond, List, [], ◌∷◌, length, get_or, replicate, IsTrue, FitsSigned, to_z, of_z, w64, refl, sym, ap, ap₂, ◌∙◌, subst, subst₂, ◌^◌, arith}
use Rattle.std.proofs.lemmas.Int.{ints, clamps, to_z-of_z}
use Rattle.std.specs.Int.{int_max}
use lib.Signed.{le_z, lt_z, mag}
use Rattle.std.proofs.Math.ListN.{set}
use Rattle.std.specs.List.{All}
use Rattle.cyp_diff.specs.declared.gaps.Gap.{Gap}
use Rattle.cyp_diff.specs.Distances.{Meets, IsDistance, none, distance}
use Rattle.cyp_diff.specs.Gaps.{Apart}
use Rattle.cyp_diff.specs.Crowds.{IsNear, AreNear, AreAllNear, AreUnmet, IsCrowd}
use Rattle.cyp_diff.proofs.Counting.{count_below, count-most, count-one_more}

-- ---- one place of a row of answers
pub get_or-false : (n v : ℕ) → get_or (replicate n false) v false ≡ false
get_or-false zero v = refl
get_or-false (suc n) zero = refl
get_or-false (suc n) (suc v) = get_or-false n v

-- what holds of each place that is told, still does with one more answer
pub set-holds : (out : List Bool) (P : ℕ → Type 0) (k : ℕ) (b : Bool) → ((v : ℕ) → IsTrue (get_or out v false) → P v) → (IsTrue b → P k) → (v : ℕ) → IsTrue (get_or (set out k b) v false) → P v
set-holds [] P k b h p v t = h v t
set-holds (y ∷ ys) P zero b h p zero t = p t
set-holds (y ∷ ys) P zero b h p (suc v) t = h (suc v) t
set-holds (y ∷ ys) P (suc k) b h p zero t = h zero t
set-holds (y ∷ ys) P (suc k) b h p (suc v) t = set-holds ys (λ w. P (suc w)) k b (λ w s. h (suc w) s) p v t

-- ---- two places
pub at_most : (z c : ℤ) → FitsSigned w64 z → FitsSigned w64 c → le_z (to_z w64 (of_z w64 z)) (to_z w64 (of_z w64 c)) ≡ true → z ≤ℤ c
at_most z c f g e = subst (λ y. y ≤ℤ c) (to_z-of_z w64 z f) (subst (λ y. to_z w64 (of_z w64 z) ≤ℤ y) (to_z-of_z w64 c g) (le_z_true (to_z w64 (of_z w64 z)) (to_z w64 (of_z w64 c)) e)) where
  le_z_true : (a b : ℤ) → le_z a b ≡ true → a ≤ℤ b
  le_z_true a b h = grind (arith, ints)

pub near_from : (rows : List (List ℤ)) (x : ℕ → ℤ) (u v : ℕ) (most : ℤ) → u < length rows → v < length rows → most <ℤ none → distance rows u v ≤ℤ most → distance rows v u ≤ℤ most →
    Meets x rows → (x u ≡ x v → ⊥) ⊎ (distance rows u v <ℤ pos 0) ⊎ (distance rows v u <ℤ pos 0) → IsNear x most u v
near_from rows x u v most lu lv f there back m apart =
    let w : x u ≤ℤ (x v +ℤ distance rows u v) = m u v lu lv (omega (arith, ints)) in
    let w' : x v ≤ℤ (x u +ℤ distance rows v u) = m v u lv lu (omega (arith, ints)) in
    (differ apart w w', omega (arith, ints), omega (arith, ints))
  where
    differ : (x u ≡ x v → ⊥) ⊎ (distance rows u v <ℤ pos 0) ⊎ (distance rows v u <ℤ pos 0) → x u ≤ℤ (x v +ℤ distance rows u v) → x v ≤ℤ (x u +ℤ distance rows v u) → x u ≡ x v → ⊥
    differ (inl h) w w' e = h e
    differ (inr (inl h)) w w' e = absurd (omega (arith, ints))
    differ (inr (inr h)) w w' e = absurd (omega (arith, ints))

-- ---- a crowd, and the places that may join it
pub record Gathers (rows : List (List ℤ)) (gaps : List Gap) (most : ℤ) (kept : List Bool) (count : ℤ) : Type 0 where
  pub crowd : IsCrowd rows gaps most count
  pub may_join : (v : ℕ) → IsTrue (get_or kept v false) → All (λ k. AreNear rows gaps most k v) crowd.places

All-none : {X : Type 0} (P : X → Type 0) → All P []
All-none P k d lt = absurd (omega arith)

All-more : {X : Type 0} (P : X → Type 0) (x : X) (xs : List X) → P x → All P xs → All P (x ∷ xs)
All-more P x xs p h zero d lt = p
All-more P x xs p h (suc k) d lt = h k d (omega arith)

pub gathers_one : (rows : List (List ℤ)) (gaps : List Gap) (most : ℤ) (kept : List Bool) (m : ℕ) → ((v : ℕ) → IsTrue (get_or kept v false) → AreNear rows gaps most m v) → Gathers rows gaps most kept (pos 1)
gathers_one rows gaps most kept m h = record {
  crowd = record { places = m ∷ []; counted = refl; near = (All-none (λ k. AreNear rows gaps most k m), tt) };
  may_join = λ v t. All-more (λ k. AreNear rows gaps most k v) m [] (h v t) (All-none (λ k. AreNear rows gaps most k v));
}

pub gathers_more : (rows : List (List ℤ)) (gaps : List Gap) (most : ℤ) (kept new : List Bool) (count : ℤ) (m : ℕ) → Gathers rows gaps most kept count → IsTrue (get_or kept m false) →
    ((v : ℕ) → IsTrue (get_or new v false) → IsTrue (get_or kept v false)) → ((v : ℕ) → IsTrue (get_or new v false) → AreNear rows gaps most m v) → Gathers rows gaps most new (count +ℤ pos 1)
gathers_more rows gaps most kept new count m g t old near = record {
  crowd = record { places = m ∷ g.crowd.places; counted = (let e : pos (length g.crowd.places) ≡ count = g.crowd.counted in omega (arith, ints)); near = (g.may_join m t, g.crowd.near) };
  may_join = λ v s. All-more (λ k. AreNear rows gaps most k v) m g.crowd.places (near v s) (g.may_join v (old v s));
}

-- ---- integers that are pairwise different, counted in their range
is_among : (ℕ → ℤ) → ℤ → List ℕ → ℕ → Bool
is_among x low [] k = false
is_among x low (m ∷ ms) k = cond (int_eq (x m) (low +ℤ pos k)) true (is_among x low ms k)

-- each two places are near
abbrev Near : (ℕ → ℤ) → ℤ → List ℕ → Type 0
Near x most [] = Unit {0}
Near x most (m ∷ ms) = All (λ k. IsNear x most k m) ms × Near x most ms

head_true : (a b : ℤ) (c : Bool) → a ≡ b → cond (int_eq a b) true c ≡ true
head_true a b c e = grind (arith, ints)

head_false : (a b : ℤ) (c : Bool) → (a ≡ b → ⊥) → c ≡ false → cond (int_eq a b) true c ≡ false
head_false a b c h e = grind (arith, ints)

tail_true : (a b : ℤ) (c : Bool) → c ≡ true → cond (int_eq a b) true c ≡ true
tail_true a b c e = grind (arith, ints)

-- a place that is near all of them is at none of their integers
is_new : (x : ℕ → ℤ) (most low : ℤ) (ms : List ℕ) (m k : ℕ) → x m ≡ (low +ℤ pos k) → All (λ q. IsNear x most q m) ms → is_among x low ms k ≡ false
unfolding is_among
is_new x most low [] m k e h = refl
is_new x most low (q ∷ ms) m k e h = head_false (x q) (low +ℤ pos k) (is_among x low ms k) (λ f. (h 0 q (omega arith)).0 (f ∙ sym e)) (is_new x most low ms m k e (λ j d lt. h (suc j) d (omega arith)))

-- how far above another an integer is
above : (a b : ℤ) → a ≤ℤ b → (k : ℕ) × (b ≡ (a +ℤ pos k))
above a b h = pick (b -ℤ a) refl where
  pick : (z : ℤ) → (b -ℤ a) ≡ z → (k : ℕ) × (b ≡ (a +ℤ pos k))
  pick (pos k) e = (k, omega (arith, ints, e))
  pick (negsuc k) e = absurd (omega (arith, ints, e))

-- all are within the range from the least
abbrev InRange : (ℕ → ℤ) → ℤ → ℤ → List ℕ → Type 0
InRange x low most ms = All (λ m. (low ≤ℤ x m) × (x m ≤ℤ (low +ℤ most))) ms

counted : (x : ℕ → ℤ) (low : ℤ) (most : ℕ) (ms : List ℕ) → Near x (pos most) ms → InRange x low (pos most) ms → length ms ≤ count_below (is_among x low ms) (suc most)
unfolding is_among
counted x low most [] n r = omega arith
counted x low most (m ∷ ms) n r =
    let here : (low ≤ℤ x m) × (x m ≤ℤ (low +ℤ pos most)) = r 0 m (omega arith) in
    let at : (k : ℕ) × (x m ≡ (low +ℤ pos k)) = above low (x m) here.0 in
    let few : at.0 < suc most = let e : x m ≡ (low +ℤ pos at.0) = at.1 in let l : x m ≤ℤ (low +ℤ pos most) = here.1 in omega (arith, ints) in
    let rest : length ms ≤ count_below (is_among x low ms) (suc most) = counted x low most ms n.1 (λ k d lt. r (suc k) d (omega arith)) in
    omega (
      arith,
      rest,
      count-one_more (is_among x low ms) (is_among x low (m ∷ ms)) (suc most) at.0 (λ y e. tail_true (x m) (low +ℤ pos y) (is_among x low ms y) e) few
          (is_new x (pos most) low ms m at.0 at.1 n.0) (head_true (x m) (low +ℤ pos at.0) (is_among x low ms at.0) at.1),
    )

-- the least of the integers, from which all are within the range
record Lowest (x : ℕ → ℤ) (most : ℕ) (ms : List ℕ) : Type 0 where
  low : ℤ
  in_range : InRange x low (pos most) ms
  also : (z : ℤ) → All (λ m. z ≤ℤ (x m +ℤ pos most)) ms → z ≤ℤ (low +ℤ pos most)

le_cases : (a b : ℤ) → (a ≤ℤ b) ⊎ (b <ℤ a)
le_cases a b = grind (arith, ints)

lowest : (x : ℕ → ℤ) (most m : ℕ) (ms : List ℕ) → Near x (pos most) (m ∷ ms) → Lowest x most (m ∷ ms)
lowest x most m [] n = record {
  low = x m;
  in_range = All-more (λ q. (x m ≤ℤ x q) × (x q ≤ℤ (x m +ℤ pos most))) m [] (omega (arith, ints), omega (arith, ints)) (All-none (λ q. (x m ≤ℤ x q) × (x q ≤ℤ (x m +ℤ pos most))));
  also = λ z h. h 0 m (omega arith);
}
lowest x most m (q ∷ ms) n = pick (lowest x most q ms n.1) where
  down : (l : Lowest x most (q ∷ ms)) → x m <ℤ l.low → InRange x (x m) (pos most) (q ∷ ms)
  down l lt k d h =
      let a : (l.low ≤ℤ x (get_or (q ∷ ms) k d)) × (x (get_or (q ∷ ms) k d) ≤ℤ (l.low +ℤ pos most)) = l.in_range k d h in
      let b : IsNear x (pos most) (get_or (q ∷ ms) k d) m = n.0 k d h in
      let a0 : l.low ≤ℤ x (get_or (q ∷ ms) k d) = a.0 in
      let b1 : x (get_or (q ∷ ms) k d) ≤ℤ (x m +ℤ pos most) = b.1 in
      (omega (arith, ints), omega (arith, ints))

  up : (l : Lowest x most (q ∷ ms)) → x m ≤ℤ (l.low +ℤ pos most)
  up l = l.also (x m) (λ k d h. (n.0 k d h).2)

  pick : Lowest x most (q ∷ ms) → Lowest x most (m ∷ q ∷ ms)
  pick l = elim (le_cases l.low (x m)) [
    | inl le ↦ record {
      low = l.low;
      in_range = All-more (λ p. (l.low ≤ℤ x p) × (x p ≤ℤ (l.low +ℤ pos most))) m (q ∷ ms) (le, up l) l.in_range;
      also = λ z h. l.also z (λ k d lt. h (suc k) d (omega arith));
    }
    | inr lt ↦ record {
      low = x m;
      in_range = All-more (λ p. (x m ≤ℤ x p) × (x p ≤ℤ (x m +ℤ pos most))) m (q ∷ ms) (omega (arith, ints), omega (arith, ints)) (down l lt);
      also = λ z h. h 0 m (omega arith);
    }
  ]

too_many : (x : ℕ → ℤ) (most : ℕ) (ms : List ℕ) → Near x (pos most) ms → length ms ≤ suc most
too_many x most [] n = omega arith
too_many x most (m ∷ ms) n =
    let l : Lowest x most (m ∷ ms) = lowest x most m ms n in
    omega (arith, counted x l.low most (m ∷ ms) n l.in_range, count-most (is_among x l.low (m ∷ ms)) (suc most))

near_all : (rows : List (List ℤ)) (gaps : List Gap) (most : ℤ) (ms : List ℕ) (x : ℕ → ℤ) → Meets x rows → All (Apart x) gaps → AreAllNear rows gaps most ms → Near x most ms
near_all rows gaps most [] x m a h = tt
near_all rows gaps most (q ∷ ms) x m a h = (λ k d lt. h.0 k d lt x m a, near_all rows gaps most ms x m a h.1)

pub crowded : (rows : List (List ℤ)) (gaps : List Gap) (most count : ℤ) → pos 0 ≤ℤ most → (most +ℤ pos 1) <ℤ count → IsCrowd rows gaps most count → AreUnmet rows gaps
crowded rows gaps (pos most) count l lt c x m a =
    let e : pos (length c.places) ≡ count = c.counted in
    absurd (omega (arith, ints, too_many x most c.places (near_all rows gaps (pos most) c.places x m a c.near)))
crowded rows gaps (negsuc most) count l lt c x m a = absurd (omega (arith, ints))

-- ---- as they are computed
mag_from : (z : ℤ) (n : ℕ) → pos 0 ≤ℤ z → z ≤ℤ pos n → mag z ≤ n
mag_from (pos m) n l h = omega (arith, ints)
mag_from (negsuc m) n l h = absurd (omega (arith, ints))

pub one_more : (rows : List (List ℤ)) (gaps : List Gap) (most : ℤ) (kept : List Bool) (count : ℤ) (m : ℕ) → Gathers rows gaps most kept count → count ≤ℤ pos (m + 1) → m < 256 → to_z w64 (of_z w64 (count +ℤ pos 1)) ≡ (count +ℤ pos 1)
one_more rows gaps most kept count m g l h =
    let e : pos (length g.crowd.places) ≡ count = g.crowd.counted in
    to_z-of_z w64 (count +ℤ pos 1) (record { sfits = omega (arith, mag_from (count +ℤ pos 1) 300 (omega (arith, ints)) (omega (arith, ints))) })

pub crowded_by : (rows : List (List ℤ)) (gaps : List Gap) (most count there back : ℤ) → IsDistance there → IsDistance back → FitsSigned w64 there → FitsSigned w64 back → FitsSigned w64 most → FitsSigned w64 count → most ≡ int_max (to_z w64 (of_z w64 there)) (to_z w64 (of_z w64 back)) →
    lt_z (to_z w64 (of_z w64 most)) (pos 0) ≡ false → lt_z (to_z w64 (of_z w64 (to_z w64 (of_z w64 most) +ℤ pos 1))) (to_z w64 (of_z w64 count)) ≡ true → IsCrowd rows gaps (to_z w64 (of_z w64 most)) count → AreUnmet rows gaps
crowded_by rows gaps most count there back rt rb ft fb fm fc e low high c =
    let value : to_z w64 (of_z w64 most) ≡ most = to_z-of_z w64 most fm in
    let is : most ≡ int_max there back = e ∙ ap₂ int_max (to_z-of_z w64 there ft) (to_z-of_z w64 back fb) in
    let lt = rt.most in let lb = rb.most in
    let zero_most : pos 0 ≤ℤ most = subst (λ z. pos 0 ≤ℤ z) value (lt_z_false (to_z w64 (of_z w64 most)) (pos 0) low) in
    let far : most ≤ℤ none = omega (arith, ints, clamps) in
    let sum : to_z w64 (of_z w64 (to_z w64 (of_z w64 most) +ℤ pos 1)) ≡ (most +ℤ pos 1) =
    ap (λ z. to_z w64 (of_z w64 (z +ℤ pos 1))) value ∙ to_z-of_z w64 (most +ℤ pos 1) (record { sfits = omega (arith, mag_from (most +ℤ pos 1) (2 ^ 61) (omega (arith, ints)) (omega (arith, ints))) }) in
    let above : (most +ℤ pos 1) <ℤ count = subst₂ (λ y z. y <ℤ z) sum (to_z-of_z w64 count fc) (lt_z_true _ _ high) in
    crowded rows gaps most count zero_most above (subst (λ z. IsCrowd rows gaps z count) value c)
  where
    lt_z_true : (a b : ℤ) → lt_z a b ≡ true → a <ℤ b
    lt_z_true a b h = grind (arith, ints)

    lt_z_false : (a b : ℤ) → lt_z a b ≡ false → b ≤ℤ a
    lt_z_false a b h = grind (arith, ints)
