-- What is read and written where a bound is added.
use Rattle.std.proofs.Common.{◌≡◌, ◌⊎◌, inl, inr, ℕ, zero, suc, ◌+◌, ◌*◌, ◌^◌, ◌<◌, ◌≤◌, ℤ, pos, negsuc, neg_ℤ, ◌+ℤ◌, ◌≤ℤ◌, ◌<ℤ◌, int_lt, Bool, true, false, cond, List, [], ◌∷◌, ◌++◌, length, get_or, take, drop, map, FitsSigned, to_z, of_z, w64, refl, sym, ap, ap₂, ◌∙◌, subst, add-one, arith}
use Rattle.std.proofs.lemmas.Int.{ints, to_z-of_z}
use Rattle.std.proofs.Math.ListN.{set}
use Rattle.std.specs.List.{All}
use lib.Signed.{le_z, mag}
use Rattle.cyp_lanes.specs.Rows.{IsModest}
use Rattle.cyp_diff.specs.Distances.{none, distance, IsDistance, IsRefused, IsSmall}
use Rattle.cyp_diff.specs.Relaxing.{lifted, closer, HasRoom, IsThrough}
use Rattle.cyp_diff.specs.Solution.{least}
use Rattle.cyp_diff.specs.Closed.{AreBounds}
use Rattle.cyp_diff.specs.Adding.{AddMeans}
use Rattle.cyp_diff.specs.declared.bounds.Adding.TheVariants.{Added, Contradiction}
use Rattle.cyp_diff.proofs.Closing.{distance_least, distance_most}
use Rattle.cyp_diff.proofs.Coming.{closer_rows, length_map}
use Rattle.cyp_diff.proofs.Mapping.{mapped_to, set-mapped, get_or-mapped, get_or-any}
use Rattle.cyp_diff.proofs.Meeting.{meets_none, solution_meets}

pub distance_read : (rows : List (List ℤ)) (row : List ℤ) (i j : ℕ) (d : ℤ) → AreBounds rows → i < 40 → j < length rows → row ≡ get_or rows j row → get_or row i d ≡ distance rows j i
distance_read rows row i j d h li lj e =
    let row' : row ≡ get_or rows j [] = e ∙ get_or-any rows j row [] lj in
    ap (λ r. get_or r i d) row' ∙ get_or-any (get_or rows j []) i d none (omega (arith, h.wide j [] lj))

-- ---- one entry that is lifted
pub lift_step : (xs out : List ℤ) (i : ℕ) (r : ℤ) → out ≡ mapped_to lifted i xs → i < length xs → FitsSigned w64 (get_or out i (pos 0)) → FitsSigned w64 r → r ≡ lifted (to_z w64 (of_z w64 (get_or out i (pos 0)))) → set out i (to_z w64 (of_z w64 r)) ≡ mapped_to lifted (i + 1) xs
lift_step xs out i r e h f g is =
    let here : get_or out i (pos 0) ≡ get_or xs i (pos 0) = ap (λ zs. get_or zs i (pos 0)) e ∙ get_or-mapped lifted i xs (pos 0) in
    let value : to_z w64 (of_z w64 r) ≡ lifted (get_or xs i (pos 0)) = to_z-of_z w64 r g ∙ is ∙ ap lifted (to_z-of_z w64 (get_or out i (pos 0)) f ∙ here) in
    ap₂ (λ zs z. set zs i z) e value ∙ set-mapped lifted i xs (pos 0) h ∙ ap (λ n. mapped_to lifted n xs) (sym (add-one i))

-- ---- one row that comes closer
pub row_step : (f : List ℤ → List ℤ) (xss rows : List (List ℤ)) (i : ℕ) (r : List ℤ) → rows ≡ mapped_to f i xss → i < length xss → r ≡ f (get_or rows i []) → set rows i r ≡ mapped_to f (i + 1) xss
row_step f xss rows i r e h is =
    let value : r ≡ f (get_or xss i []) = is ∙ ap f (ap (λ zs. get_or zs i []) e ∙ get_or-mapped f i xss []) in
    ap₂ (λ zs z. set zs i z) e value ∙ set-mapped f i xss [] h ∙ ap (λ n. mapped_to f n xss) (sym (add-one i))

-- ---- what callees ask
lt_cases : (a b : ℤ) → (a <ℤ b) ⊎ (b ≤ℤ a)
lt_cases a b = grind (arith, ints)

lt_or_le : (a n : ℕ) → (a < n) ⊎ (n ≤ a)
lt_or_le a n = grind arith

room_at : (i : ℕ) (row : List ℤ) (z : ℤ) → get_or row i none ≡ z → (z <ℤ none → neg_ℤ z ≤ℤ pos (33 * 2 ^ 34)) → HasRoom i row
room_at i row z e h = elim (lt_cases z none) [
  | inl k ↦ let g : neg_ℤ z ≤ℤ pos (33 * 2 ^ 34) = h k in omega (arith, ints)
  | inr k ↦ omega (arith, ints)
]

pub room : (rows : List (List ℤ)) (i : ℕ) → AreBounds rows → i < length rows → All (HasRoom i) rows
room rows i h li k d lk = room_at i (get_or rows k d) (distance rows k i) (ap (λ r. get_or r i none) (get_or-any rows k d [] lk)) (λ f. distance_least (length rows) (distance rows) k i h.closed h.few lk li f)

modest_by : (z : ℤ) → z ≤ℤ none → (z <ℤ none → neg_ℤ z ≤ℤ pos (33 * 2 ^ 34)) → (b : Bool) → int_lt z none ≡ b → IsModest (cond b z (pos (2 ^ 61)))
modest_by z m h true e =
    let k : z <ℤ none = lt_from z none e in
    let g : neg_ℤ z ≤ℤ pos (33 * 2 ^ 34) = h k in
    record { least = omega (arith, ints); most = omega (arith, ints) }
  where
    lt_from : (a b : ℤ) → int_lt a b ≡ true → a <ℤ b
    lt_from a b e = grind (arith, ints)
modest_by z m h false e = record { least = omega (arith, ints); most = omega (arith, ints) }

distance_room : (rows : List (List ℤ)) (j k : ℕ) → AreBounds rows → j < length rows → distance rows j k <ℤ none → neg_ℤ (distance rows j k) ≤ℤ pos (33 * 2 ^ 34)
distance_room rows j k h lj f = elim (lt_or_le k (length rows)) [
  | inl lk ↦ distance_least (length rows) (distance rows) j k h.closed h.few lj lk f
  | inr lk ↦ let e : distance rows j k ≡ none = h.closed.beyond j k lk in absurd (omega (arith, ints))
]

get_or-map_in : {X Y : Type 0} (f : X → Y) (xs : List X) (k : ℕ) (d : Y) (e : X) → k < length xs → get_or (map f xs) k d ≡ f (get_or xs k e)
get_or-map_in f [] k d e h = absurd (omega arith)
get_or-map_in f (x ∷ xs) zero d e h = refl
get_or-map_in f (x ∷ xs) (suc k) d e h = get_or-map_in f xs k d e (omega arith)

pub modest : (rows : List (List ℤ)) (row : List ℤ) (j : ℕ) → AreBounds rows → j < length rows → row ≡ get_or rows j row → All IsModest (map lifted row)
modest rows row j h lj e k d lk =
    let row' : row ≡ get_or rows j [] = e ∙ get_or-any rows j row [] lj in
    let lk' : k < length row = omega (arith, length_map lifted row) in
    let value : get_or (map lifted row) k d ≡ lifted (distance rows j k) = get_or-map_in lifted row k d none lk' ∙ ap (λ r. lifted (get_or r k none)) row' in
    subst IsModest (sym value) (modest_by (distance rows j k) (h.closed.most j k) (distance_room rows j k h lj) (int_lt (distance rows j k) none) refl)

-- ---- no way through the new bound is less where place j is no farther by it
through_entry : (z p q w c t : ℤ) → z ≤ℤ none → p <ℤ none → p ≤ℤ pos (33 * 2 ^ 34) → c ≤ℤ pos (2 ^ 34) → q ≤ℤ (p +ℤ c) → (q <ℤ none → neg_ℤ q ≤ℤ pos (33 * 2 ^ 34)) → (q <ℤ none → w <ℤ none → z ≤ℤ (q +ℤ w)) → (b : Bool) → int_lt w none ≡ b → t ≡ cond b w (pos (2 ^ 61)) → z ≤ℤ (t +ℤ (p +ℤ c))
through_entry z p q w c t m f l s n r h true e g =
    let fq : q <ℤ none = omega (arith, ints) in
    let fw : w <ℤ none = lt_from w none e in
    let k : z ≤ℤ (q +ℤ w) = h fq fw in
    let g' : t ≡ w = g in
    omega (arith, ints)
  where
    lt_from : (a b : ℤ) → int_lt a b ≡ true → a <ℤ b
    lt_from a b e = grind (arith, ints)
through_entry z p q w c t m f l s n r h false e g =
    let fq : q <ℤ none = omega (arith, ints) in
    let k : neg_ℤ q ≤ℤ pos (33 * 2 ^ 34) = r fq in
    let g' : t ≡ pos (2 ^ 61) = g in
    omega (arith, ints)

through_at : (rows : List (List ℤ)) (i j a k : ℕ) (c : ℤ) → AreBounds rows → i < length rows → j < length rows → a < length rows → IsSmall c → distance rows a i <ℤ none → distance rows a j ≤ℤ (distance rows a i +ℤ c) → k < 40 →
    distance rows a k ≤ℤ (get_or (map lifted (get_or rows j [])) k none +ℤ (distance rows a i +ℤ c))
through_at rows i j a k c h li lj la s f n lk =
    let t : get_or (map lifted (get_or rows j [])) k none ≡ lifted (distance rows j k) = get_or-map_in lifted (get_or rows j []) k none none (omega (arith, h.wide j [] lj)) in
    through_entry (distance rows a k) (distance rows a i) (distance rows a j) (distance rows j k) c (get_or (map lifted (get_or rows j [])) k none)
    (h.closed.most a k) f (distance_most (length rows) (distance rows) a i h.closed h.few la li f) s.most n (distance_room rows a j h la) by_way (int_lt (distance rows j k) none) refl t
  where
    by_way : distance rows a j <ℤ none → distance rows j k <ℤ none → distance rows a k ≤ℤ (distance rows a j +ℤ distance rows j k)
    by_way p q = elim (lt_or_le k (length rows)) [
      | inl lt ↦ (h.closed.through a j k la lj lt p q).1
      | inr le ↦ let e : distance rows j k ≡ none = h.closed.beyond j k le in absurd (omega (arith, ints))
    ]

pub through : (rows : List (List ℤ)) (row : List ℤ) (i j : ℕ) (c : ℤ) → AreBounds rows → i < length rows → j < length rows → IsSmall c → row ≡ get_or rows j row → All (IsThrough i j c (map lifted row)) rows
through rows row i j c h li lj s e a d la = λ f n k lk.
    let here : get_or rows a d ≡ get_or rows a [] = get_or-any rows a d [] la in
    let row' : row ≡ get_or rows j [] = e ∙ get_or-any rows j row [] lj in
    let t : distance rows a k ≤ℤ (get_or (map lifted (get_or rows j [])) k none +ℤ (distance rows a i +ℤ c)) =
    through_at rows i j a k c h li lj la s (subst (λ r. get_or r i none <ℤ none) here f) (subst (λ r. get_or r j none ≤ℤ (get_or r i none +ℤ c)) here n) lk in
    subst (λ r. get_or r k none ≤ℤ (get_or (map lifted row) k none +ℤ (get_or r i none +ℤ c))) (sym here)
    (subst (λ r. distance rows a k ≤ℤ (get_or (map lifted r) k none +ℤ (distance rows a i +ℤ c))) (sym row') t)

-- ---- answers

-- where the bound is told already
pub nothing_new : (rows : List (List ℤ)) (i j : ℕ) (c : ℤ) → AreBounds rows → i < length rows → j < length rows → IsSmall c → distance rows i j ≤ℤ c → AddMeans i j c rows rows Added
nothing_new rows i j c h li lj s le =
    let m = s.most in
    let fin : distance rows i j <ℤ none = omega (arith, ints) in (
      λ x. (λ k. (k, let w : x i ≤ℤ (x j +ℤ distance rows i j) = k i j li lj fin in omega (arith, ints)), λ k. k.0),
      ((λ p. least (distance rows p) (length rows)), solution_meets (length rows) (length rows) (distance rows) (omega arith) h.closed),
    )

-- where the distance back refuses it
pub refused : (rows : List (List ℤ)) (i j : ℕ) (c : ℤ) → i < length rows → j < length rows → IsRefused rows i j c → AddMeans i j c rows rows Contradiction
refused rows i j c li lj h = (refl, λ x m w. meets_none (length rows) (distance rows) i j c li lj h.0 h.1 x m w)

-- no cycle below zero, where it doesn't
pub not_refused : (rows : List (List ℤ)) (i j : ℕ) (c : ℤ) → (IsRefused rows i j c → ⊥) → distance rows j i <ℤ none → pos 0 ≤ℤ (distance rows j i +ℤ c)
not_refused rows i j c h f = elim (lt_cases (distance rows j i +ℤ c) (pos 0)) [ inl k ↦ absurd (h (f, k)) | inr k ↦ k ]

-- a distance that was read is in its range
pub range_read : (rows : List (List ℤ)) (row : List ℤ) (i j : ℕ) → AreBounds rows → i < length rows → j < length rows → row ≡ get_or rows i row → FitsSigned w64 (get_or row j (pos 0)) → IsDistance (to_z w64 (of_z w64 (get_or row j (pos 0))))
range_read rows row i j h li lj e f = subst IsDistance (sym (to_z-of_z w64 (get_or row j (pos 0)) f ∙ distance_read rows row j i (pos 0) h (omega (arith, h.few)) li e)) (range (distance rows i j) (h.closed.most i j) (distance_room rows i j h li)) where
  range : (z : ℤ) → z ≤ℤ none → (z <ℤ none → neg_ℤ z ≤ℤ pos (33 * 2 ^ 34)) → IsDistance z
  range z m k = elim (lt_cases z none) [
    | inl l ↦ let g : neg_ℤ z ≤ℤ pos (33 * 2 ^ 34) = k l in record { least = omega (arith, ints); most = m }
    | inr l ↦ record { least = omega (arith, ints); most = m }
  ]

mag_from : (z : ℤ) (n : ℕ) → (neg_ℤ (pos n)) ≤ℤ z → z ≤ℤ pos n → mag z ≤ n
mag_from (pos m) n l h = omega (arith, ints)
mag_from (negsuc m) n l h = omega (arith, ints)

small_fits : (c : ℤ) → IsSmall c → FitsSigned w64 c
small_fits c s = record { sfits = omega (arith, mag_from c (2 ^ 34) (omega (arith, ints)) (omega (arith, ints))) }

-- a number that is passed on
pub passed : (c : ℤ) → IsSmall c → to_z w64 (of_z w64 c) ≡ c
passed c s = to_z-of_z w64 c (small_fits c s)

-- a distance that is read and at most c
pub at_most : (z c : ℤ) → FitsSigned w64 z → IsSmall c → le_z (to_z w64 (of_z w64 z)) (to_z w64 (of_z w64 c)) ≡ true → z ≤ℤ c
at_most z c f s e = subst (λ y. y ≤ℤ c) (to_z-of_z w64 z f) (subst (λ y. to_z w64 (of_z w64 z) ≤ℤ y) (passed c s) (le_z_true (to_z w64 (of_z w64 z)) (to_z w64 (of_z w64 c)) e)) where
  le_z_true : (a b : ℤ) → le_z a b ≡ true → a ≤ℤ b
  le_z_true a b h = grind (arith, ints)

take_front : {X : Type 0} (xs ys : List X) → take (length xs) (xs ++ ys) ≡ xs
take_front [] ys = refl
take_front (x ∷ xs) ys = ap (λ zs. x ∷ zs) (take_front xs ys)

-- what is written back is the new rows
pub written : (rows new now : List (List ℤ)) (row from : List ℤ) (i j len : ℕ) (c : ℤ) → AreBounds rows → j < length rows → IsSmall c → row ≡ get_or rows j row → from ≡ map lifted row → now ≡ rows → length now ≡ len →
    new ≡ map (closer i from (to_z w64 (of_z w64 c))) now → take len (new ++ drop (length new) rows) ≡ closer_rows rows i j c
written rows new now row from i j len c h lj s er ef en el e =
    let row' : row ≡ get_or rows j [] = er ∙ get_or-any rows j row [] lj in
    let new' : new ≡ closer_rows rows i j c =
    e ∙ ap₂ (λ f k. map (closer i f k) now) (ef ∙ ap (map lifted) row') (to_z-of_z w64 c (small_fits c s)) ∙ ap (map (closer i (map lifted (get_or rows j [])) c)) en in
    let count : len ≡ length new = sym el ∙ ap length en ∙ sym (length_map (closer i (map lifted (get_or rows j [])) c) rows) ∙ ap length (sym new') in
    ap (λ n. take n (new ++ drop (length new) rows)) count ∙ take_front new (drop (length new) rows) ∙ new'
