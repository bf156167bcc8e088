-- A gap that is broken is split into its two orders.
use Rattle.std.proofs.Common.{◌≡◌, ◌⊎◌, inl, inr, ℕ, zero, suc, ◌^◌, ◌<◌, ◌≤◌, ℤ, pos, negsuc, neg_ℤ, ◌+ℤ◌, ◌-ℤ◌, ◌≤ℤ◌, ◌<ℤ◌, List, [], ◌∷◌, length, Option, Some, None, Result, Ok, Err, FitsSigned, to_z, of_z, w64, sym, ap, ◌∙◌, subst, arith}
use Rattle.std.proofs.lemmas.Int.{ints, to_z-of_z}
use Rattle.std.specs.Prelude.{◌↔◌, IfOk}
use Rattle.std.specs.List.{All, remove, slice_get}
use lib.Signed.{mag}
use Rattle.cyp_diff.specs.declared.gaps.Gap.{Gap}
use Rattle.cyp_diff.specs.Distances.{distance, Meets, Within, IsRefused, IsSmall}
use Rattle.cyp_diff.specs.Gaps.{Apart, IsGap, SeparateMeans, SideMeans}
use Rattle.cyp_diff.specs.Solution.{at}
use Rattle.cyp_diff.proofs.Meeting.{meets_none}

-- ---- one item of a list, and the others
pub All-item : {X : Type 0} (P : X → Type 0) (xs : List X) (k : ℕ) (y : X) → slice_get xs k ≡ Some y → All P xs → P y
All-item P [] k y e h = absurd (cc e)
All-item P (x ∷ xs) zero y e h = let f : x ≡ y = cc e in subst P f (h 0 x (omega arith))
All-item P (x ∷ xs) (suc k) y e h = All-item P xs k y e (λ m d lt. h (suc m) d (omega arith))

All-tail : {X : Type 0} (P : X → Type 0) (x : X) (xs : List X) → All P (x ∷ xs) → All P xs
All-tail P x xs h m d lt = h (suc m) d (omega arith)

All-cons : {X : Type 0} (P : X → Type 0) (x : X) (xs : List X) → P x → All P xs → All P (x ∷ xs)
All-cons P x xs p h zero d lt = p
All-cons P x xs p h (suc m) d lt = h m d (omega arith)

pub All-rest : {X : Type 0} (P : X → Type 0) (xs : List X) (k : ℕ) → All P xs → All P (remove xs k)
All-rest P [] zero h = h
All-rest P [] (suc k) h = h
All-rest P (x ∷ xs) zero h = All-tail P x xs h
All-rest P (x ∷ xs) (suc k) h = All-cons P x (remove xs k) (h 0 x (omega arith)) (All-rest P xs k (All-tail P x xs h))

pub All-back : {X : Type 0} (P : X → Type 0) (xs : List X) (k : ℕ) (y : X) → slice_get xs k ≡ Some y → P y → All P (remove xs k) → All P xs
All-back P [] k y e p h = absurd (cc e)
All-back P (x ∷ xs) zero y e p h = let f : y ≡ x = cc e in All-cons P x xs (subst P f p) h
All-back P (x ∷ xs) (suc k) y e p h = All-cons P x xs (h 0 x (omega arith)) (All-back P xs k y e p (All-tail P x (remove xs k) h))

-- ---- the numbers of the two orders
mag_from : (z : ℤ) (n : ℕ) → (neg_ℤ (pos n)) ≤ℤ z → z ≤ℤ pos n → mag z ≤ n
mag_from (pos m) n l h = omega (arith, ints)
mag_from (negsuc m) n l h = omega (arith, ints)

fits_by : (z : ℤ) → (neg_ℤ (pos (2 ^ 34))) ≤ℤ z → z ≤ℤ pos (2 ^ 34) → FitsSigned w64 z
fits_by z l h = record { sfits = omega (arith, mag_from z (2 ^ 34) l h) }

gap_fits : (n : ℕ) (g : Gap) → IsGap n g → FitsSigned w64 g.c
gap_fits n g h = let l = h.least in let m = h.most in fits_by g.c (omega (arith, ints)) (omega (arith, ints))

abbrev pub below : Gap → ℤ
below g = to_z w64 (of_z w64 (to_z w64 (of_z w64 g.c) -ℤ pos 1))

abbrev pub above : Gap → ℤ
above g = to_z w64 (of_z w64 (negsuc 0 -ℤ to_z w64 (of_z w64 g.c)))

pub below_is : (n : ℕ) (g : Gap) → IsGap n g → below g ≡ (g.c -ℤ pos 1)
below_is n g h =
    let l = h.least in let m = h.most in
    ap (λ z. to_z w64 (of_z w64 (z -ℤ pos 1))) (to_z-of_z w64 g.c (gap_fits n g h)) ∙ to_z-of_z w64 (g.c -ℤ pos 1) (fits_by (g.c -ℤ pos 1) (omega (arith, ints)) (omega (arith, ints)))

above_is : (n : ℕ) (g : Gap) → IsGap n g → above g ≡ (negsuc 0 -ℤ g.c)
above_is n g h =
    let l = h.least in let m = h.most in
    ap (λ z. to_z w64 (of_z w64 (negsuc 0 -ℤ z))) (to_z-of_z w64 g.c (gap_fits n g h)) ∙ to_z-of_z w64 (negsuc 0 -ℤ g.c) (fits_by (negsuc 0 -ℤ g.c) (omega (arith, ints)) (omega (arith, ints)))

pub above_fits : (n : ℕ) (g : Gap) → IsGap n g → FitsSigned w64 (negsuc 0 -ℤ to_z w64 (of_z w64 g.c))
above_fits n g h =
    let l = h.least in let m = h.most in
    subst (λ z. FitsSigned w64 (negsuc 0 -ℤ z)) (sym (to_z-of_z w64 g.c (gap_fits n g h))) (fits_by (negsuc 0 -ℤ g.c) (omega (arith, ints)) (omega (arith, ints)))

pub below_small : (n : ℕ) (g : Gap) → IsGap n g → IsSmall (below g)
below_small n g h = let l = h.least in let m = h.most in let e : below g ≡ (g.c -ℤ pos 1) = below_is n g h in record { least = omega (arith, ints); most = omega (arith, ints) }

pub above_small : (n : ℕ) (g : Gap) → IsGap n g → IsSmall (above g)
above_small n g h = let l = h.least in let m = h.most in let e : above g ≡ (negsuc 0 -ℤ g.c) = above_is n g h in record { least = omega (arith, ints); most = omega (arith, ints) }

orders : (a b c : ℤ) → (a ≡ (b +ℤ c) → ⊥) → (a ≤ℤ (b +ℤ (c -ℤ pos 1))) ⊎ (b ≤ℤ (a +ℤ (negsuc 0 -ℤ c)))
orders a b c h = pick (less (b +ℤ c) a) where
  less : (p q : ℤ) → (p <ℤ q) ⊎ (q ≤ℤ p)
  less p q = grind (arith, ints)

  pick : ((b +ℤ c) <ℤ a) ⊎ (a ≤ℤ (b +ℤ c)) → (a ≤ℤ (b +ℤ (c -ℤ pos 1))) ⊎ (b ≤ℤ (a +ℤ (negsuc 0 -ℤ c)))
  pick (inl k) = inr (omega (arith, ints))
  pick (inr k) = pick_again (less a (b +ℤ c)) where
    pick_again : (a <ℤ (b +ℤ c)) ⊎ ((b +ℤ c) ≤ℤ a) → (a ≤ℤ (b +ℤ (c -ℤ pos 1))) ⊎ (b ≤ℤ (a +ℤ (negsuc 0 -ℤ c)))
    pick_again (inl l) = inl (omega (arith, ints))
    pick_again (inr l) = absurd (h (omega (arith, ints)))

pub orders_of : (n : ℕ) (g : Gap) (x : ℕ → ℤ) → IsGap n g → Apart x g → Within x g.i g.j (g.c -ℤ pos 1) ⊎ Within x g.j g.i (above g)
orders_of n g x h a = elim (orders (x g.i) (x g.j) g.c a) [
  | inl k ↦ inl k
  | inr k ↦ inr (subst (λ z. x g.j ≤ℤ (x g.i +ℤ z)) (sym (above_is n g h)) k)
]

pub apart_below : (g : Gap) (x : ℕ → ℤ) → Within x g.i g.j (g.c -ℤ pos 1) → Apart x g
apart_below g x w e = let k : x g.i ≤ℤ (x g.j +ℤ (g.c -ℤ pos 1)) = w in absurd (omega (arith, ints))

pub apart_above : (n : ℕ) (g : Gap) (x : ℕ → ℤ) → IsGap n g → Within x g.j g.i (above g) → Apart x g
apart_above n g x h w e = let k : x g.j ≤ℤ (x g.i +ℤ (negsuc 0 -ℤ g.c)) = subst (λ z. x g.j ≤ℤ (x g.i +ℤ z)) (above_is n g h) w in absurd (omega (arith, ints))

-- ---- answers of the two functions
abbrev Old : (List (List ℤ)) → List (List ℤ) → ℕ → ℕ → ℤ → Type 0
Old old new i j c = (x : ℕ → ℤ) → Meets x new ↔ (Meets x old × Within x i j c)

pub side_added : {E : Type 0} (old new : List (List ℤ)) (i j : ℕ) (c c' : ℤ) (gaps : List Gap) (r : Result (Option (List ℤ)) E) → c' ≡ c → length new ≡ length old → Old old new i j c' → IfOk r (SeparateMeans new gaps) → IfOk r (SideMeans old i j c gaps)
side_added old new i j c c' gaps (Err e) f s iff h = tt
side_added old new i j c c' gaps (Ok None) f s iff h = λ x m w a. h x ((iff x).1 (m, subst (λ z. Within x i j z) (sym f) w)) a
side_added old new i j c c' gaps (Ok (Some xs)) f s iff h = (record { places = h.0.places ∙ s; meets = ((iff (at xs)).0 h.0.meets).0; low = h.0.low }, subst (λ z. Within (at xs) i j z) f ((iff (at xs)).0 h.0.meets).1, h.1)

pub found_below : (rows : List (List ℤ)) (gaps : List Gap) (k : ℕ) (g : Gap) (o : Option (List ℤ)) (xs : List ℤ) → slice_get gaps k ≡ Some g → SideMeans rows g.i g.j (g.c -ℤ pos 1) (remove gaps k) o → o ≡ Some xs → SeparateMeans rows gaps (Some xs)
found_below rows gaps k g o xs e m is =
    let m' : SideMeans rows g.i g.j (g.c -ℤ pos 1) (remove gaps k) (Some xs) = subst (λ p. SideMeans rows g.i g.j (g.c -ℤ pos 1) (remove gaps k) p) is m in
    (m'.0, All-back (Apart (at xs)) gaps k g e (apart_below g (at xs) m'.1) m'.2)

pub then_above : {E : Type 0} (rows : List (List ℤ)) (gaps : List Gap) (k : ℕ) (g : Gap) (o : Option (List ℤ)) (r : Result (Option (List ℤ)) E) → IsGap (length rows) g → slice_get gaps k ≡ Some g → SideMeans rows g.i g.j (g.c -ℤ pos 1) (remove gaps k) o → o ≡ None → IfOk r (SideMeans rows g.j g.i (above g) (remove gaps k)) → IfOk r (SeparateMeans rows gaps)
then_above rows gaps k g o (Err f) h e m is n = tt
then_above rows gaps k g o (Ok None) h e m is n =
    let m' : SideMeans rows g.i g.j (g.c -ℤ pos 1) (remove gaps k) None = subst (λ p. SideMeans rows g.i g.j (g.c -ℤ pos 1) (remove gaps k) p) is m in
    λ x y a. elim (orders_of (length rows) g x h (All-item (Apart x) gaps k g e a)) [ inl w ↦ m' x y w (All-rest (Apart x) gaps k a) | inr w ↦ n x y w (All-rest (Apart x) gaps k a) ]
then_above rows gaps k g o (Ok (Some xs)) h e m is n = (n.0, All-back (Apart (at xs)) gaps k g e (apart_above (length rows) g (at xs) h n.1) n.2)

-- where the order below is refused at once
pub none_below : (n : ℕ) (rows : List (List ℤ)) (gaps : List Gap) (g : Gap) (i j : ℕ) → IsGap n g → i < length rows → j < length rows → IsRefused rows i j (below g) → SideMeans rows i j (g.c -ℤ pos 1) gaps None
none_below n rows gaps g i j h li lj r x m w a =
    let r' : IsRefused rows i j (g.c -ℤ pos 1) = subst (λ z. IsRefused rows i j z) (below_is n g h) r in
    meets_none (length rows) (distance rows) i j (g.c -ℤ pos 1) li lj r'.0 r'.1 x m w
