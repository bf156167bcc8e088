-- Rows that are relaxed hold the ways through the new bound.
use Rattle.std.proofs.Common.{◌≡◌, ◌⊎◌, inl, inr, ℕ, zero, suc, ◌*◌, ◌^◌, ◌<◌, ◌≤◌, ℤ, pos, neg_ℤ, ◌+ℤ◌, ◌≤ℤ◌, ◌<ℤ◌, int_lt, Bool, true, false, cond, List, [], ◌∷◌, length, get_or, map, refl, sym, ap, ◌∙◌, subst, arith}
use Rattle.std.proofs.lemmas.Int.{ints, clamps}
use Rattle.std.proofs.lemmas.Simd.{get_or-zip2, length-zip2}
use Rattle.std.specs.Int.{int_min}
use Rattle.std.specs.List.{All}
use Rattle.cyp_lanes.specs.Rows.{relaxed}
use Rattle.cyp_diff.specs.Distances.{none, distance, IsSmall}
use Rattle.cyp_diff.specs.Relaxing.{lifted, closer}
use Rattle.cyp_diff.specs.Closed.{IsClosed, AreBounds}
use Rattle.cyp_diff.specs.Adding.{AddMeans}
use Rattle.cyp_diff.specs.declared.bounds.Adding.TheVariants.{Added}
use Rattle.cyp_diff.proofs.Closing.{Adds, Comes, distance_least, closed_still}
use Rattle.cyp_diff.proofs.Meeting.{AllMeet, meets_old, meets_added, meets_new, solution_meets}
use Rattle.cyp_diff.specs.Solution.{least}
use Rattle.cyp_diff.proofs.Mapping.{get_or-map_default, get_or-past}

-- one entry: z is from a to b, u from a to i, w from j to b
abbrev EntryComes : ℤ → ℤ → ℤ → ℤ → ℤ → Type 0
EntryComes z' z u w c = (z' ≤ℤ z) × (u <ℤ none → w <ℤ none → z' ≤ℤ ((u +ℤ c) +ℤ w)) × ((z' ≡ z) ⊎ ((u <ℤ none) × (w <ℤ none) × (z' ≡ ((u +ℤ c) +ℤ w))))

lt_true : (a b : ℤ) → int_lt a b ≡ true → a <ℤ b
lt_true a b e = grind (arith, ints)

lt_false : (a b : ℤ) → int_lt a b ≡ false → b ≤ℤ a
lt_false a b e = grind (arith, ints)

lt_same : (a b : ℤ) → b ≤ℤ a → int_lt a b ≡ false
lt_same a b h = grind (arith, ints)

min_left : (a b : ℤ) → a ≤ℤ b → int_min a b ≡ a
min_left a b h = omega (arith, ints, clamps)

min_cases : (a b : ℤ) → (int_min a b ≡ a) ⊎ (int_min a b ≡ b)
min_cases a b = grind (arith, ints, clamps)

entry_off : (z' z u w c : ℤ) → z' ≡ none → z ≡ none → u ≡ none → EntryComes z' z u w c
entry_off z' z u w c e f g = (omega (arith, ints), λ h _. absurd (omega (arith, ints)), inl (e ∙ sym f))

entry_past : (z' z u w c : ℤ) → z' ≡ none → z ≡ none → w ≡ none → EntryComes z' z u w c
entry_past z' z u w c e f g = (omega (arith, ints), λ _ h. absurd (omega (arith, ints)), inl (e ∙ sym f))

entry_by : (z u w c z' : ℤ) → z ≤ℤ none → (u <ℤ none → neg_ℤ u ≤ℤ pos (33 * 2 ^ 34)) → IsSmall c → (p : Bool) → int_lt u none ≡ p → (q : Bool) → int_lt w none ≡ q → z' ≡ cond p (int_min z (cond q w (pos (2 ^ 61)) +ℤ (u +ℤ c))) z → EntryComes z' z u w c
entry_by z u w c z' m l s false p q f e =
    let k : none ≤ℤ u = lt_false u none p in
    (omega (arith, ints), λ g h. absurd (omega (arith, ints)), inl e)
entry_by z u w c z' m l s true p true f e =
    let e' : z' ≡ int_min z (w +ℤ (u +ℤ c)) = e in
    let g : u <ℤ none = lt_true u none p in
    let h : w <ℤ none = lt_true w none f in
    (omega (arith, ints, clamps), λ _ _. omega (arith, ints, clamps), elim (min_cases z (w +ℤ (u +ℤ c))) [ inl k ↦ inl (e' ∙ k) | inr k ↦ inr (g, h, omega (arith, ints, e' ∙ k)) ])
entry_by z u w c z' m l s true p false f e =
    let e' : z' ≡ int_min z (pos (2 ^ 61) +ℤ (u +ℤ c)) = e in
    let g : u <ℤ none = lt_true u none p in
    let k : none ≤ℤ w = lt_false w none f in
    let l' : neg_ℤ u ≤ℤ pos (33 * 2 ^ 34) = l g in
    let sl = s.least in
    let far : z ≤ℤ (pos (2 ^ 61) +ℤ (u +ℤ c)) = omega (arith, ints) in
    let e'' : z' ≡ z = e' ∙ min_left z _ far in
    (omega (arith, ints), λ _ h. absurd (omega (arith, ints)), inl e'')

lt_or_le : (a n : ℕ) → (a < n) ⊎ (n ≤ a)
lt_or_le a n = grind arith

-- the rows after the bound
abbrev pub closer_rows : List (List ℤ) → ℕ → ℕ → ℤ → List (List ℤ)
closer_rows rows i j c = map (closer i (map lifted (get_or rows j [])) c) rows

pub length_map : {X Y : Type 0} (f : X → Y) (xs : List X) → length (map f xs) ≡ length xs
length_map f [] = refl
length_map f (x ∷ xs) = ap suc (length_map f xs)

closer-nothing : (i : ℕ) (from : List ℤ) (c : ℤ) → [] ≡ closer i from c []
closer-nothing i from c = refl

row_value : (row from : List ℤ) (i b : ℕ) (c : ℤ) → length row ≡ 40 → length from ≡ 40 → b < 40 → (p : Bool) → int_lt (get_or row i none) none ≡ p →
    get_or (cond p (relaxed row (map lifted from) (get_or row i none +ℤ c)) row) b none ≡ cond p (int_min (get_or row b none) (lifted (get_or from b none) +ℤ (get_or row i none +ℤ c))) (get_or row b none)
row_value row from i b c e f lt false p = refl
row_value row from i b c e f lt true p =
    get_or-zip2 (λ d s. int_min d (s +ℤ (get_or row i none +ℤ c))) row (map lifted from) b none (lifted none) none (omega arith) (omega (arith, length_map lifted from))
    ∙ ap (λ z. int_min (get_or row b none) (z +ℤ (get_or row i none +ℤ c))) (get_or-map_default lifted from b none (lifted none) refl)

row_past : (row from : List ℤ) (i b : ℕ) (c : ℤ) → length row ≡ 40 → length from ≡ 40 → 40 ≤ b → (p : Bool) → get_or (cond p (relaxed row (map lifted from) (get_or row i none +ℤ c)) row) b none ≡ none
row_past row from i b c e f le false = get_or-past row b none (omega arith)
row_past row from i b c e f le true =
    get_or-past (relaxed row (map lifted from) (get_or row i none +ℤ c)) b none
    (omega (arith, length-zip2 (λ d s. int_min d (s +ℤ (get_or row i none +ℤ c))) row (map lifted from) (e ∙ sym (length_map lifted from ∙ f))))

new_row : (rows : List (List ℤ)) (i j a : ℕ) (c : ℤ) → get_or (closer_rows rows i j c) a [] ≡ closer i (map lifted (get_or rows j [])) c (get_or rows a [])
new_row rows i j a c = get_or-map_default (closer i (map lifted (get_or rows j [])) c) rows a [] [] (closer-nothing i (map lifted (get_or rows j [])) c)

entry : (rows : List (List ℤ)) (i j : ℕ) (c : ℤ) → AreBounds rows → i < length rows → j < length rows → IsSmall c → (a b : ℕ) → EntryComes (distance (closer_rows rows i j c) a b) (distance rows a b) (distance rows a i) (distance rows j b) c
entry rows i j c h li lj s a b = by (lt_or_le a (length rows)) (lt_or_le b 40) where
  by : (a < length rows) ⊎ (length rows ≤ a) → (b < 40) ⊎ (40 ≤ b) → EntryComes (distance (closer_rows rows i j c) a b) (distance rows a b) (distance rows a i) (distance rows j b) c
  by (inl la) (inl lb) =
      entry_by (distance rows a b) (distance rows a i) (distance rows j b) c (distance (closer_rows rows i j c) a b)
      (h.closed.most a b) (λ f. distance_least (length rows) (distance rows) a i h.closed h.few la li f) s (int_lt (distance rows a i) none) refl (int_lt (distance rows j b) none) refl
      (ap (λ r. get_or r b none) (new_row rows i j a c) ∙ row_value (get_or rows a []) (get_or rows j []) i b c (h.wide a [] la) (h.wide j [] lj) lb (int_lt (distance rows a i) none) refl)
  by (inl la) (inr lb) =
      entry_past (distance (closer_rows rows i j c) a b) (distance rows a b) (distance rows a i) (distance rows j b) c
      (ap (λ r. get_or r b none) (new_row rows i j a c) ∙ row_past (get_or rows a []) (get_or rows j []) i b c (h.wide a [] la) (h.wide j [] lj) lb (int_lt (distance rows a i) none))
      (get_or-past (get_or rows a []) b none (omega (arith, h.wide a [] la))) (get_or-past (get_or rows j []) b none (omega (arith, h.wide j [] lj)))
  by (inr la) lb =
      let none_there : get_or rows a [] ≡ [] = get_or-past rows a [] la in
      entry_off (distance (closer_rows rows i j c) a b) (distance rows a b) (distance rows a i) (distance rows j b) c
      (ap (λ r. get_or r b none) (new_row rows i j a c) ∙ ap (λ r. get_or (closer i (map lifted (get_or rows j [])) c r) b none) none_there)
      (ap (λ r. get_or r b none) none_there) (ap (λ r. get_or r i none) none_there)

pub comes : (rows : List (List ℤ)) (i j : ℕ) (c : ℤ) → AreBounds rows → i < length rows → j < length rows → IsSmall c → Comes (distance rows) (distance (closer_rows rows i j c)) i j c
comes rows i j c h li lj s = record {
  lower = λ a b. (entry rows i j c h li lj s a b).0;
  via = λ a b. (entry rows i j c h li lj s a b).1;
  from = λ a b. (entry rows i j c h li lj s a b).2;
}

length-closer : (i : ℕ) (from : List ℤ) (c : ℤ) (row : List ℤ) → length row ≡ 40 → length from ≡ 40 → length (closer i from c row) ≡ 40
length-closer i from c row e f = by (int_lt (get_or row i none) none) where
  by : (p : Bool) → length (cond p (relaxed row from (get_or row i none +ℤ c)) row) ≡ 40
  by true = length-zip2 (λ d s. int_min d (s +ℤ (get_or row i none +ℤ c))) row from (e ∙ sym f) ∙ e
  by false = e

All-map_to : {X Y : Type 0} (P : X → Type 0) (Q : Y → Type 0) (f : X → Y) (xs : List X) → ((x : X) → P x → Q (f x)) → All P xs → All Q (map f xs)
All-map_to P Q f [] h g k d lt = absurd (omega arith)
All-map_to P Q f (x ∷ xs) h g zero d lt = h x (g 0 x (omega arith))
All-map_to P Q f (x ∷ xs) h g (suc k) d lt = All-map_to P Q f xs h (λ m e l. g (suc m) e (omega arith)) k d (omega arith)

adds : (rows : List (List ℤ)) (i j : ℕ) (c : ℤ) → AreBounds rows → i < length rows → j < length rows → IsSmall c → (distance rows j i <ℤ none → pos 0 ≤ℤ (distance rows j i +ℤ c)) → Adds (length rows) (distance rows) (distance (closer_rows rows i j c)) i j c
adds rows i j c h li lj s k = record { closed = h.closed; few = h.few; first = li; second = lj; small = s; comes = comes rows i j c h li lj s; no_cycle = k }

pub length-closer_rows : (rows : List (List ℤ)) (i j : ℕ) (c : ℤ) → length (closer_rows rows i j c) ≡ length rows
length-closer_rows rows i j c = length_map (closer i (map lifted (get_or rows j [])) c) rows

-- the rows after the bound are bounds again
pub bounds_still : (rows : List (List ℤ)) (i j : ℕ) (c : ℤ) → AreBounds rows → i < length rows → j < length rows → IsSmall c → (distance rows j i <ℤ none → pos 0 ≤ℤ (distance rows j i +ℤ c)) → AreBounds (closer_rows rows i j c)
bounds_still rows i j c h li lj s k = record {
  few = omega (arith, length-closer_rows rows i j c, h.few);
  wide = All-map_to (λ row. length row ≡ 40) (λ row. length row ≡ 40) (closer i (map lifted (get_or rows j [])) c) rows
      (λ row e. length-closer i (map lifted (get_or rows j [])) c row e (length_map lifted (get_or rows j []) ∙ h.wide j [] lj)) h.wide;
  closed = subst (λ n. IsClosed n (distance (closer_rows rows i j c))) (sym (length-closer_rows rows i j c)) (closed_still (length rows) (distance rows) (distance (closer_rows rows i j c)) i j c (adds rows i j c h li lj s k));
}

-- and mean what they are to mean
pub adding_means : (rows : List (List ℤ)) (i j : ℕ) (c : ℤ) → AreBounds rows → i < length rows → j < length rows → IsSmall c → (distance rows j i <ℤ none → pos 0 ≤ℤ (distance rows j i +ℤ c)) → AddMeans i j c rows (closer_rows rows i j c) Added
adding_means rows i j c h li lj s k =
    let n = length rows in
    let d' : ℕ → ℕ → ℤ = distance (closer_rows rows i j c) in
    let same : length (closer_rows rows i j c) ≡ n = length-closer_rows rows i j c in
    let a : Adds n (distance rows) d' i j c = adds rows i j c h li lj s k in (
      λ x. (
        λ m. let m' : AllMeet n x d' = subst (λ l. AllMeet l x d') same m in (meets_old n (distance rows) d' i j c a x m', meets_added n (distance rows) d' i j c a x m'),
        λ m. subst (λ l. AllMeet l x d') (sym same) (meets_new n (distance rows) d' i j c a x m.0 m.1),
      ),
      ((λ p. least (d' p) n), subst (λ l. AllMeet l (λ p. least (d' p) n) d') (sym same) (solution_meets n n d' (omega arith) (closed_still n (distance rows) d' i j c a))),
    )
