-- Rows without bounds.
use Rattle.std.proofs.Common.{◌≡◌, ◌≢◌, ◌⊎◌, inl, inr, ℕ, zero, suc, ◌+◌, ◌<◌, ◌≤◌, ℤ, pos, ◌≤ℤ◌, ◌<ℤ◌, List, [], ◌∷◌, ◌++◌, length, get_or, replicate, refl, sym, ap, ◌∙◌, subst, add-one, arith}
use Rattle.std.proofs.lemmas.Int.{ints}
use Rattle.std.proofs.Math.ListN.{set}
use Rattle.std.proofs.lemmas.List.{get_or-set_same, get_or-set_other, get_or-replicate, length-set, get_or_append_left, length-append}
use Rattle.std.proofs.Math.Seq.{get_or-append_seam}
use Rattle.std.specs.List.{All}
use Rattle.cyp_diff.specs.Distances.{none, distance, Meets}
use Rattle.cyp_diff.specs.Closed.{IsClosed, AreBounds}
use Rattle.cyp_diff.proofs.Mapping.{get_or-past, get_or-any}

-- a row of place i: nothing but itself is bounded
unfoldable pub empty_row : ℕ → List ℤ
empty_row i = set (replicate 40 none) i (pos 0)

-- the rows of the first n places
unfoldable pub empty_rows : ℕ → List (List ℤ)
empty_rows zero = []
empty_rows (suc n) = empty_rows n ++ empty_row n ∷ []

pub length-empty_rows : (n : ℕ) → length (empty_rows n) ≡ n
unfolding empty_rows
length-empty_rows zero = refl
length-empty_rows (suc n) = omega (arith, length-append (empty_rows n) (empty_row n ∷ []), length-empty_rows n)

last_or_below : (x n : ℕ) → x < suc n → (x ≡ n) ⊎ (x < n)
last_or_below x n h = grind arith

get_or-empty_rows : (n a : ℕ) → a < n → get_or (empty_rows n) a [] ≡ empty_row a
unfolding empty_rows
get_or-empty_rows zero a h = absurd (omega arith)
get_or-empty_rows (suc n) a h =
    elim (last_or_below a n h) [
      | inl e ↦
          let e' : a ≡ length (empty_rows n) = e ∙ sym (length-empty_rows n) in
          ap (λ k. get_or (empty_rows n ++ empty_row n ∷ []) k []) e' ∙ get_or-append_seam (empty_rows n) (empty_row n) [] [] ∙ ap empty_row (sym e)
      | inr k ↦ get_or_append_left (empty_rows n) (empty_row n ∷ []) [] a (omega (arith, length-empty_rows n)) ∙ get_or-empty_rows n a k
    ]

row_same : (a : ℕ) → a < 40 → get_or (empty_row a) a none ≡ pos 0
unfolding empty_row
row_same a h = get_or-set_same (replicate 40 none) a (pos 0) none h

lt_or_le : (a n : ℕ) → (a < n) ⊎ (n ≤ a)
lt_or_le a n = grind arith

blank : (b : ℕ) → get_or (replicate 40 none) b none ≡ none
blank b = elim (lt_or_le b 40) [ inl h ↦ get_or-replicate 40 b none none h | inr h ↦ get_or-past (replicate 40 none) b none h ]

row_other : (a b : ℕ) → b ≢ a → get_or (empty_row a) b none ≡ none
unfolding empty_row
row_other a b h = get_or-set_other (replicate 40 none) a b (pos 0) none h ∙ blank b

same_or_not : (a b : ℕ) → (b ≡ a) ⊎ (b ≢ a)
same_or_not a b = grind arith

-- only the distance of a place to itself bounds
record IsEmpty (n : ℕ) (d : ℕ → ℕ → ℤ) : Type 0 where
  same : (a : ℕ) → a < n → d a a ≡ pos 0
  other : (a b : ℕ) → b ≢ a → d a b ≡ none
  past : (a b : ℕ) → n ≤ a → d a b ≡ none

is_empty : (n : ℕ) → n ≤ 33 → IsEmpty n (distance (empty_rows n))
is_empty n few = record {
  same = λ a h. ap (λ r. get_or r a none) (get_or-empty_rows n a h) ∙ row_same a (omega arith);
  other = λ a b h. elim (lt_or_le a n) [
    | inl l ↦ ap (λ r. get_or r b none) (get_or-empty_rows n a l) ∙ row_other a b h
    | inr l ↦ ap (λ r. get_or r b none) (get_or-past (empty_rows n) a [] (omega (arith, length-empty_rows n)))
  ];
  past = λ a b h. ap (λ r. get_or r b none) (get_or-past (empty_rows n) a [] (omega (arith, length-empty_rows n)));
}

only_same : (n : ℕ) (d : ℕ → ℕ → ℤ) → IsEmpty n d → (a b : ℕ) → d a b <ℤ none → b ≡ a
only_same n d h a b f = elim (same_or_not a b) [ inl e ↦ e | inr k ↦ let e : d a b ≡ none = h.other a b k in absurd (omega (arith, ints)) ]

most_by : (n : ℕ) (d : ℕ → ℕ → ℤ) → IsEmpty n d → (a b : ℕ) → (b ≡ a) ⊎ (b ≢ a) → (a < n) ⊎ (n ≤ a) → d a b ≤ℤ none
most_by n d h a b (inl e) (inl l) = let z : d a b ≡ pos 0 = ap (d a) e ∙ h.same a l in omega (arith, ints)
most_by n d h a b (inl e) (inr l) = let z : d a b ≡ none = h.past a b l in omega (arith, ints)
most_by n d h a b (inr k) l = let z : d a b ≡ none = h.other a b k in omega (arith, ints)

beyond_by : (n : ℕ) (d : ℕ → ℕ → ℤ) → IsEmpty n d → (a b : ℕ) → n ≤ b → (b ≡ a) ⊎ (b ≢ a) → d a b ≡ none
beyond_by n d h a b l (inl e) = h.past a b (omega arith)
beyond_by n d h a b l (inr k) = h.other a b k

closed_empty : (n : ℕ) (d : ℕ → ℕ → ℤ) → IsEmpty n d → IsClosed n d
closed_empty n d h = record {
  same = h.same;
  through = λ a k b la lk lb p q.
      let e : k ≡ a = only_same n d h a k p in
      let f : b ≡ k = only_same n d h k b q in
      let x : d a b ≡ pos 0 = ap (d a) (f ∙ e) ∙ h.same a la in
      let y : d a k ≡ pos 0 = ap (d a) e ∙ h.same a la in
      let z : d k b ≡ pos 0 = ap (d k) f ∙ h.same k lk in
      (omega (arith, ints), omega (arith, ints));
  way = λ a b la lb p.
      let e : b ≡ a = only_same n d h a b p in
      let x : d a b ≡ pos 0 = ap (d a) e ∙ h.same a la in
      record { edges = []; leads = sym e; are = tt; weighs = sym x };
  most = λ a b. most_by n d h a b (same_or_not a b) (lt_or_le a n);
  beyond = λ a b l. beyond_by n d h a b l (same_or_not a b);
}

all_wide : (n : ℕ) → All (λ row. length row ≡ 40) (empty_rows n)
unfolding empty_row
all_wide n k d h =
    let lk : k < n = omega (arith, length-empty_rows n) in
    ap length (get_or-any (empty_rows n) k d [] h ∙ get_or-empty_rows n k lk) ∙ length-set (replicate 40 none) k (pos 0)

pub bounds_empty : (n : ℕ) → n ≤ 33 → AreBounds (empty_rows n)
bounds_empty n few = record {
  few = omega (arith, length-empty_rows n);
  wide = all_wide n;
  closed = subst (λ l. IsClosed l (distance (empty_rows n))) (sym (length-empty_rows n)) (closed_empty n (distance (empty_rows n)) (is_empty n few));
}

-- all integers meet them
pub meets_empty : (n : ℕ) → n ≤ 33 → (x : ℕ → ℤ) → Meets x (empty_rows n)
meets_empty n few x a b la lb f =
    let h : IsEmpty n (distance (empty_rows n)) = is_empty n few in
    let e : b ≡ a = only_same n (distance (empty_rows n)) h a b f in
    let z : distance (empty_rows n) a b ≡ pos 0 = ap (distance (empty_rows n) a) e ∙ h.same a (omega (arith, length-empty_rows n)) in
    let s : x b ≡ x a = ap x e in
    omega (arith, ints)

pub rows_step : (rows new : List (List ℤ)) (i : ℕ) → rows ≡ empty_rows i → new ≡ rows ++ empty_row i ∷ [] → new ≡ empty_rows (i + 1)
unfolding empty_rows
rows_step rows new i e f = f ∙ ap (λ rs. rs ++ empty_row i ∷ []) e ∙ ap empty_rows (sym (add-one i))
