-- A row comes closer by a new bound, or stays as it is where the bound shows it nothing.
use Rattle.std.proofs.Common.{◌≡◌, ℕ, suc, ◌^◌, ◌<◌, ◌≤◌, ℤ, pos, negsuc, neg_ℤ, ◌+ℤ◌, ◌≤ℤ◌, ◌<ℤ◌, int_lt, true, false, cond, List, [], ◌∷◌, length, get_or, FitsSigned, to_z, of_z, w64, refl, sym, ap, ap₂, ◌∙◌, subst, arith}
use Rattle.std.proofs.lemmas.Int.{ints, clamps, to_z-of_z}
use Rattle.std.specs.Int.{int_min}
use lib.Signed.{lt_z, mag}
use Rattle.cyp_lanes.specs.Rows.{IsModest, relaxed}
use Rattle.cyp_diff.specs.Distances.{none, IsSmall}
use Rattle.cyp_diff.specs.Relaxing.{HasRoom, IsThrough, closer}
use Rattle.cyp_diff.proofs.Mapping.{get_or-any}

mag_from : (z : ℤ) (n : ℕ) → (neg_ℤ (pos n)) ≤ℤ z → z ≤ℤ pos n → mag z ≤ n
mag_from (pos m) n l h = omega (arith, ints)
mag_from (negsuc m) n l h = omega (arith, ints)

lt_z_true : (a b : ℤ) → lt_z a b ≡ true → a <ℤ b
lt_z_true a b e = grind (arith, ints)

lt_z_false : (a b : ℤ) → lt_z a b ≡ false → b ≤ℤ a
lt_z_false a b e = grind (arith, ints)

int_lt_true : (a b : ℤ) → a <ℤ b → int_lt a b ≡ true
int_lt_true a b h = grind (arith, ints)

int_lt_false : (a b : ℤ) → b ≤ℤ a → int_lt a b ≡ false
int_lt_false a b h = grind (arith, ints)

min_left : (a b : ℤ) → a ≤ℤ b → int_min a b ≡ a
min_left a b h = omega (arith, ints, clamps)

-- what a row's entries are where they are read
abbrev read : List ℤ → ℕ → ℤ
read row i = to_z w64 (of_z w64 (get_or row i (pos 0)))

abbrev sum : List ℤ → ℕ → ℤ → ℤ
sum row i c = to_z w64 (of_z w64 (read row i +ℤ to_z w64 (of_z w64 c)))

pub read_is : (row : List ℤ) (i : ℕ) → i < length row → FitsSigned w64 (get_or row i (pos 0)) → read row i ≡ get_or row i none
read_is row i h f = to_z-of_z w64 (get_or row i (pos 0)) f ∙ get_or-any row i (pos 0) none h

-- what is known of the row
pub record Nears (row : List ℤ) (i : ℕ) (c : ℤ) : Type 0 where
  pub place : i < length row
  pub small : IsSmall c
  pub number : FitsSigned w64 c
  pub room : HasRoom i row
  pub fits : FitsSigned w64 (get_or row i (pos 0))
  pub bounded : lt_z (read row i) none ≡ true

far_bounded : (row : List ℤ) (i : ℕ) (c : ℤ) → Nears row i c → get_or row i none <ℤ none
far_bounded row i c h = subst (λ z. z <ℤ none) (read_is row i h.place h.fits) (lt_z_true (read row i) none h.bounded)

parts_are : (row : List ℤ) (i : ℕ) (c : ℤ) → Nears row i c → (read row i +ℤ to_z w64 (of_z w64 c)) ≡ (get_or row i none +ℤ c)
parts_are row i c h = ap₂ (λ x y. x +ℤ y) (read_is row i h.place h.fits) (to_z-of_z w64 c h.number)

within_fits : (z c : ℤ) → IsSmall c → z <ℤ none → pos 0 ≤ℤ (z +ℤ pos (2 ^ 40)) → FitsSigned w64 (z +ℤ c)
within_fits z c s h l = let sl = s.least in let sm = s.most in record { sfits = omega (arith, mag_from (z +ℤ c) (2 ^ 61) (omega (arith, ints)) (omega (arith, ints))) }

within_modest : (z c : ℤ) → IsSmall c → z <ℤ none → pos 0 ≤ℤ (z +ℤ pos (2 ^ 40)) → IsModest (z +ℤ c)
within_modest z c s h l = let sl = s.least in let sm = s.most in record { least = omega (arith, ints); most = omega (arith, ints) }

pub parts_fit : (row : List ℤ) (i : ℕ) (c : ℤ) → Nears row i c → FitsSigned w64 (read row i +ℤ to_z w64 (of_z w64 c))
parts_fit row i c h = subst (λ z. FitsSigned w64 z) (sym (parts_are row i c h)) (within_fits (get_or row i none) c h.small (far_bounded row i c h) h.room)

sum_is : (row : List ℤ) (i : ℕ) (c : ℤ) → Nears row i c → sum row i c ≡ (get_or row i none +ℤ c)
sum_is row i c h = to_z-of_z w64 (read row i +ℤ to_z w64 (of_z w64 c)) (parts_fit row i c h) ∙ parts_are row i c h

pub sum_modest : (row : List ℤ) (i : ℕ) (c : ℤ) → Nears row i c → IsModest (sum row i c)
sum_modest row i c h = subst IsModest (sym (sum_is row i c h)) (within_modest (get_or row i none) c h.small (far_bounded row i c h) h.room)

pub comes_closer : (row from new : List ℤ) (i : ℕ) (c : ℤ) → Nears row i c → new ≡ relaxed row from (sum row i c) → new ≡ closer i from c row
comes_closer row from new i c h e =
    e ∙ ap (λ z. relaxed row from z) (sum_is row i c h)
    ∙ ap (λ b. cond b (relaxed row from (get_or row i none +ℤ c)) row) (sym (int_lt_true (get_or row i none) none (far_bounded row i c h)))

-- a row of which no entry is more than that of the other row and the number
relaxed-same : (row from : List ℤ) (z : ℤ) → length from ≡ length row → ((k : ℕ) → k < length row → get_or row k none ≤ℤ (get_or from k none +ℤ z)) → row ≡ relaxed row from z
relaxed-same [] from z e h = refl
relaxed-same (x ∷ row) [] z e h = absurd (omega arith)
relaxed-same (x ∷ row) (y ∷ from) z e h = ap₂ (λ z zs. z ∷ zs) (sym (min_left x (y +ℤ z) (h 0 (omega arith)))) (relaxed-same row from z (omega arith) (λ k lt. h (suc k) (omega arith)))

pub stays : (row from : List ℤ) (i j : ℕ) (c : ℤ) → Nears row i c → length row ≡ 40 → length from ≡ 40 → j < 40 → FitsSigned w64 (get_or row j (pos 0)) → IsThrough i j c from row → lt_z (sum row i c) (read row j) ≡ false → row ≡ closer i from c row
stays row from i j c h e f lj fj t p =
    let near : get_or row j none ≤ℤ (get_or row i none +ℤ c) = subst (λ z. z ≤ℤ (get_or row i none +ℤ c)) (read_is row j (omega (arith, e)) fj) (subst (λ z. read row j ≤ℤ z) (sum_is row i c h) (lt_z_false (sum row i c) (read row j) p)) in
    relaxed-same row from (get_or row i none +ℤ c) (f ∙ sym e) (λ k lt. t (far_bounded row i c h) near k (omega (arith, e)))
    ∙ ap (λ b. cond b (relaxed row from (get_or row i none +ℤ c)) row) (sym (int_lt_true (get_or row i none) none (far_bounded row i c h)))

pub stays_far : (row from : List ℤ) (i : ℕ) (c : ℤ) → i < length row → FitsSigned w64 (get_or row i (pos 0)) → lt_z (read row i) none ≡ false → row ≡ closer i from c row
stays_far row from i c h f p =
    let far : none ≤ℤ get_or row i none = subst (λ z. none ≤ℤ z) (read_is row i h f) (lt_z_false (read row i) none p) in
    ap (λ b. cond b (relaxed row from (get_or row i none +ℤ c)) row) (sym (int_lt_false (get_or row i none) none far))
