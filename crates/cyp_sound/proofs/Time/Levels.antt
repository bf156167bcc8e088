-- Levels of tuples: they fall where the tuples fall, and where there is one more; and the levels of small numbers are small.
use Rattle.cyp_kernel.specs.Laws.{AtMostEach, IsLower}
use Rattle.cyp_measure.specs.Levels.{group, groups, pad}
use Rattle.cyp_sound.proofs.Time.Measures.{AllWithin, AreShort, Falls, FallsWithin, LexAtMost, LexBelow, cut, last_end, levels_of}
use Rattle.std.proofs.Common.{◌≡◌, refl, sym, ap, ◌∙◌, ℕ, zero, suc, ◌+◌, ◌-◌, ◌*◌, ◌<◌, ◌≤◌, length, List, [], ◌∷◌, ◌++◌, ◌⊎◌, inl, inr, drop, take, replicate, arith, subst}
use Rattle.std.proofs.lemmas.List.{length-append, length-drop, length-replicate, length-take}

-- ---- the order

pub lex_trans : (a b c : List ℕ) → LexBelow a b → LexBelow b c → LexBelow a c
lex_trans [] b c p q = absurd p
lex_trans (x ∷ a) [] c p q = absurd p
lex_trans (x ∷ a) (y ∷ b) [] p q = absurd q
lex_trans (x ∷ a) (y ∷ b) (z ∷ c) (inl p) (inl q) = inl (p.0 ∙ q.0, lex_trans a b c p.1 q.1)
lex_trans (x ∷ a) (y ∷ b) (z ∷ c) (inl p) (inr q) = inr (subst (λ (k : ℕ). k < z) (sym p.0) q)
lex_trans (x ∷ a) (y ∷ b) (z ∷ c) (inr p) (inl q) = inr (subst (λ (k : ℕ). x < k) q.0 p)
lex_trans (x ∷ a) (y ∷ b) (z ∷ c) (inr p) (inr q) = inr (less x y z p q)
  where
    less : (x y z : ℕ) → x < y → y < z → x < z
    less x y z p q = omega arith

within_each : (z : ℕ) (a c : List ℕ) → length a ≡ length c → AllWithin z a → AtMostEach a (replicate (length c) z)
within_each z [] [] e w = tt
within_each z [] (y ∷ c) e w = cc
within_each z (x ∷ a) [] e w = cc
within_each z (x ∷ a) (y ∷ c) e w = (w.0, within_each z a c (same (length a) (length c) e) w.1)
  where
    same : (i j : ℕ) → suc i ≡ suc j → i ≡ j
    same i j e = omega arith

lex_lower : (z : ℕ) (a c : List ℕ) → length a ≡ length c → AllWithin z a → LexBelow a c → IsLower z a c
lex_lower z [] c e w p = absurd p
lex_lower z (x ∷ a) [] e w p = absurd p
lex_lower z (x ∷ a) (y ∷ c) e w (inl p) = inl (p.0, lex_lower z a c (same (length a) (length c) e) w.1 p.1)
  where
    same : (i j : ℕ) → suc i ≡ suc j → i ≡ j
    same i j e = omega arith
lex_lower z (x ∷ a) (y ∷ c) e w (inr p) = inr (p, within_each z a c (same (length a) (length c) e) w.1)
  where
    same : (i j : ℕ) → suc i ≡ suc j → i ≡ j
    same i j e = omega arith

pub below_is_lower : (z : ℕ) (a b c : List ℕ) → length a ≡ length c → AllWithin z a → LexBelow a b → LexAtMost b c → IsLower z a c
below_is_lower z a b c e w p (inl q) = lex_lower z a c e w (subst (λ (x : List ℕ). LexBelow a x) q p)
below_is_lower z a b c e w p (inr q) = lex_lower z a c e w (lex_trans a b c p q)

-- ---- lists that fall

same_or_less : (x y : ℕ) → x ≤ y → (x ≡ y) ⊎ (x < y)
same_or_less zero zero l = inl refl
same_or_less zero (suc y) l = inr (positive y)
  where
    positive : (y : ℕ) → 0 < suc y
    positive y = omega arith
same_or_less (suc x) zero l = absurd (none x l)
  where
    none : (x : ℕ) → suc x ≤ 0 → ⊥
    none x l = omega arith
same_or_less (suc x) (suc y) l = more (same_or_less x y (less x y l))
  where
    less : (x y : ℕ) → suc x ≤ suc y → x ≤ y
    less x y l = omega arith

    more : (x ≡ y) ⊎ (x < y) → (suc x ≡ suc y) ⊎ (suc x < suc y)
    more (inl e) = inl (ap suc e)
    more (inr l) = inr (up x y l)
      where
        up : (x y : ℕ) → x < y → suc x < suc y
        up x y l = omega arith

falls_below : (n : ℕ) (xs ys as' bs : List ℕ) → FallsWithin n xs ys → LexBelow (take n (xs ++ as')) (take n (ys ++ bs))
falls_below zero xs ys as' bs f = absurd f
falls_below (suc n) [] ys as' bs f = absurd f
falls_below (suc n) (x ∷ xs) [] as' bs f = absurd f
falls_below (suc n) (x ∷ xs) (y ∷ ys) as' bs (inl l) = inr l
falls_below (suc n) (x ∷ xs) (y ∷ ys) as' bs (inr f) = either (same_or_less x y f.0) (falls_below n xs ys as' bs f.1)
  where
    either : {P : Type 0} → (x ≡ y) ⊎ (x < y) → P → ((x ≡ y) × P) ⊎ (x < y)
    either (inl e) p = inl (e, p)
    either (inr l) p = inr l

within_longer : (n m : ℕ) (xs ys : List ℕ) → n ≤ m → FallsWithin n xs ys → FallsWithin m xs ys
within_longer zero m xs ys l f = absurd f
within_longer (suc n) zero xs ys l f = absurd (none n l)
  where
    none : (n : ℕ) → suc n ≤ 0 → ⊥
    none n l = omega arith
within_longer (suc n) (suc m) [] ys l f = absurd f
within_longer (suc n) (suc m) (x ∷ xs) [] l f = absurd f
within_longer (suc n) (suc m) (x ∷ xs) (y ∷ ys) l (inl p) = inl p
within_longer (suc n) (suc m) (x ∷ xs) (y ∷ ys) l (inr f) = inr (f.0, within_longer n m xs ys (less n m l) f.1)
  where
    less : (n m : ℕ) → suc n ≤ suc m → n ≤ m
    less n m l = omega arith

-- behind numbers that aren't above
behind_most : (n : ℕ) (as' bs xs ys : List ℕ) → AtMostEach as' bs → FallsWithin n xs ys → FallsWithin (length as' + n) (as' ++ xs) (bs ++ ys)
behind_most n [] [] xs ys m f = within_longer n (0 + n) xs ys (same n) f
  where
    same : (n : ℕ) → n ≤ 0 + n
    same n = omega arith
behind_most n [] (b ∷ bs) xs ys m f = absurd m
behind_most n (a ∷ as') [] xs ys m f = absurd m
behind_most n (a ∷ as') (b ∷ bs) xs ys m f =
    within_longer (suc (length as' + n)) (suc (length as') + n) (a ∷ as' ++ xs) (b ∷ bs ++ ys) (same (length as') n) (inr (m.0, behind_most n as' bs xs ys m.1 f))
  where
    same : (k n : ℕ) → suc (k + n) ≤ suc k + n
    same k n = omega arith

-- before anything
before_all : (n : ℕ) (as' bs xs ys : List ℕ) → FallsWithin n as' bs → FallsWithin n (as' ++ xs) (bs ++ ys)
before_all zero as' bs xs ys f = absurd f
before_all (suc n) [] bs xs ys f = absurd f
before_all (suc n) (a ∷ as') [] xs ys f = absurd f
before_all (suc n) (a ∷ as') (b ∷ bs) xs ys (inl p) = inl p
before_all (suc n) (a ∷ as') (b ∷ bs) xs ys (inr f) = inr (f.0, before_all n as' bs xs ys f.1)

-- ---- a group

-- the first so many numbers, of which the lists may have fewer: they fall there, or aren't above, and fall later
abbrev Split : ℕ → List ℕ → List ℕ → Type 0
Split w xs ys = FallsWithin w (take w xs) (take w ys) ⊎ (AtMostEach (take w xs) (take w ys) × Falls (drop w xs) (drop w ys))

split_falls : (w : ℕ) (xs ys : List ℕ) → Falls xs ys → Split w xs ys
split_falls zero xs ys f = inr (tt, f)
split_falls (suc w) [] ys f = absurd f
split_falls (suc w) (x ∷ xs) [] f = absurd f
split_falls (suc w) (x ∷ xs) (y ∷ ys) (inl l) = inl (inl l)
split_falls (suc w) (x ∷ xs) (y ∷ ys) (inr f) = at (split_falls w xs ys f.1)
  where
    at : Split w xs ys → Split (suc w) (x ∷ xs) (y ∷ ys)
    at (inl g) = inl (inr (f.0, g))
    at (inr g) = inr ((f.0, g.0), g.1)

most_self : (xs : List ℕ) → AtMostEach xs xs
most_self [] = tt
most_self (x ∷ xs) = (same x, most_self xs)
  where
    same : (x : ℕ) → x ≤ x
    same x = omega arith

most_append : (as' bs xs ys : List ℕ) → AtMostEach as' bs → AtMostEach xs ys → AtMostEach (as' ++ xs) (bs ++ ys)
most_append [] [] xs ys m k = k
most_append [] (b ∷ bs) xs ys m k = absurd m
most_append (a ∷ as') [] xs ys m k = absurd m
most_append (a ∷ as') (b ∷ bs) xs ys m k = (m.0, most_append as' bs xs ys m.1 k)

most_take : (n : ℕ) (xs ys : List ℕ) → AtMostEach xs ys → AtMostEach (take n xs) (take n ys)
most_take zero xs ys m = tt
most_take (suc n) [] [] m = tt
most_take (suc n) [] (y ∷ ys) m = absurd m
most_take (suc n) (x ∷ xs) [] m = absurd m
most_take (suc n) (x ∷ xs) (y ∷ ys) m = (m.0, most_take n xs ys m.1)

group_most : (p q : List ℕ) → AtMostEach p q → AtMostEach (group p) (group q)
group_most p q m = most_take 17 (0 ∷ p ++ replicate 17 0) (0 ∷ q ++ replicate 17 0) (zero_most, most_append p q (replicate 17 0) (replicate 17 0) m (most_self (replicate 17 0)))
  where
    zero_most : 0 ≤ 0
    zero_most = omega arith

-- where the first so many are kept, what falls within them falls
take_falls : (n w : ℕ) (xs ys as' bs : List ℕ) → w ≤ n → FallsWithin w xs ys → FallsWithin n (take n (xs ++ as')) (take n (ys ++ bs))
take_falls n zero xs ys as' bs l f = absurd f
take_falls zero (suc w) xs ys as' bs l f = absurd (none w l)
  where
    none : (n : ℕ) → suc n ≤ 0 → ⊥
    none n l = omega arith
take_falls (suc n) (suc w) [] ys as' bs l f = absurd f
take_falls (suc n) (suc w) (x ∷ xs) [] as' bs l f = absurd f
take_falls (suc n) (suc w) (x ∷ xs) (y ∷ ys) as' bs l (inl p) = inl p
take_falls (suc n) (suc w) (x ∷ xs) (y ∷ ys) as' bs l (inr f) = inr (f.0, take_falls n w xs ys as' bs (less w n l) f.1)
  where
    less : (n m : ℕ) → suc n ≤ suc m → n ≤ m
    less n m l = omega arith

group_falls : (w : ℕ) (p q : List ℕ) → w ≤ 16 → FallsWithin w p q → FallsWithin 17 (group p) (group q)
group_falls w p q l f = inr (zero_most, take_falls 16 w p q (replicate 17 0) (replicate 17 0) l f)
  where
    zero_most : 0 ≤ 0
    zero_most = omega arith

length-take-to : (n : ℕ) (xs ys : List ℕ) → length ys ≡ n → length (take n (xs ++ ys)) ≡ n
length-take-to n xs ys e = omega (arith, length-take n (xs ++ ys), length-append xs ys, e)

group_length : (p : List ℕ) → length (group p) ≡ 17
group_length p = length-take-to 17 (0 ∷ p) (replicate 17 0) (length-replicate {A = ℕ} 17 0)

-- ---- groups

drop_all : (xs : List ℕ) (k : ℕ) → length xs ≡ k → drop k xs ≡ []
drop_all [] zero e = refl
drop_all [] (suc k) e = refl
drop_all (x ∷ xs) zero e = cc
drop_all (x ∷ xs) (suc k) e = drop_all xs k (same (length xs) k e)
  where
    same : (i j : ℕ) → suc i ≡ suc j → i ≡ j
    same i j e = omega arith

drop_drop : (k w : ℕ) (xs : List ℕ) → drop w (drop k xs) ≡ drop (k + w) xs
drop_drop zero w xs = ap (λ (n : ℕ). drop n xs) (same w)
  where
    same : (w : ℕ) → w ≡ 0 + w
    same w = omega arith
drop_drop (suc k) w [] = none w ∙ ap (λ (n : ℕ). drop n []) (same k w)
  where
    none : (w : ℕ) → drop {A = ℕ} w [] ≡ []
    none zero = refl
    none (suc w) = refl

    same : (k w : ℕ) → suc (k + w) ≡ suc k + w
    same k w = omega arith
drop_drop (suc k) w (x ∷ xs) = drop_drop k w xs ∙ ap (λ (n : ℕ). drop n (x ∷ xs)) (same k w)
  where
    same : (k w : ℕ) → suc (k + w) ≡ suc k + w
    same k w = omega arith

drop_to : (k e : ℕ) (xs : List ℕ) → k ≤ e → drop (e - k) (drop k xs) ≡ drop e xs
drop_to k e xs l = drop_drop k (e - k) xs ∙ ap (λ (n : ℕ). drop n xs) (sum k e l)
  where
    sum : (k e : ℕ) → k ≤ e → k + (e - k) ≡ e
    sum k e l = omega arith

no_fall : (xs ys : List ℕ) → xs ≡ [] → Falls xs ys → ⊥
no_fall [] ys e f = f
no_fall (x ∷ xs) ys e f = cc

groups_fall : (k : ℕ) (ends more xs ys : List ℕ) → AreShort k ends → length xs ≡ last_end k ends → Falls (drop k xs) (drop k ys)
    → FallsWithin (17 * length ends) (groups (cut k ends xs)) (groups (cut k (ends ++ more) ys))
groups_fall k [] more xs ys short long f = absurd (no_fall (drop k xs) (drop k ys) (drop_all xs k long) f)
groups_fall k (e ∷ es) more xs ys short long f =
    at (split_falls (e - k) (drop k xs) (drop k ys) f)
    (λ g. groups_fall e es more xs ys short.2 long (subst (λ (b : List ℕ). Falls (drop e xs) b) (drop_to k e ys short.0) (subst (λ (a : List ℕ). Falls a (drop (e - k) (drop k ys))) (drop_to k e xs short.0) g)))
  where
    few : (e k : ℕ) → e ≤ k + 16 → e - k ≤ 16
    few e k l = omega arith

    first : (n : ℕ) → 17 ≤ 17 * suc n
    first n = omega arith

    later : (n : ℕ) → 17 + 17 * n ≤ 17 * suc n
    later n = omega arith

    at : Split (e - k) (drop k xs) (drop k ys) → (Falls (drop (e - k) (drop k xs)) (drop (e - k) (drop k ys)) → FallsWithin (17 * length es) (groups (cut e es xs)) (groups (cut e (es ++ more) ys)))
        → FallsWithin (17 * suc (length es)) (group (take (e - k) (drop k xs)) ++ groups (cut e es xs)) (group (take (e - k) (drop k ys)) ++ groups (cut e (es ++ more) ys))
    at (inl g) more' =
        within_longer 17 (17 * suc (length es)) _ _ (first (length es))
        (before_all 17 (group (take (e - k) (drop k xs))) (group (take (e - k) (drop k ys))) (groups (cut e es xs)) (groups (cut e (es ++ more) ys))
        (group_falls (e - k) (take (e - k) (drop k xs)) (take (e - k) (drop k ys)) (few e k short.1) g))
    at (inr g) more' =
        within_longer (17 + 17 * length es) (17 * suc (length es)) _ _ (later (length es))
        (subst (λ (n : ℕ). FallsWithin (n + 17 * length es) (group (take (e - k) (drop k xs)) ++ groups (cut e es xs)) (group (take (e - k) (drop k ys)) ++ groups (cut e (es ++ more) ys)))
        (group_length (take (e - k) (drop k xs)))
        (behind_most (17 * length es) (group (take (e - k) (drop k xs))) (group (take (e - k) (drop k ys))) (groups (cut e es xs)) (groups (cut e (es ++ more) ys))
        (group_most (take (e - k) (drop k xs)) (take (e - k) (drop k ys)) g.0) (more' g.1)))

pub fall_law : (ends more xs ys : List ℕ) → length ends ≤ 4 → AreShort 0 ends → length xs ≡ last_end 0 ends → Falls xs ys
    → LexBelow (levels_of ends xs) (levels_of (ends ++ more) ys)
fall_law ends more xs ys few short long f =
    falls_below 68 (groups (cut 0 ends xs)) (groups (cut 0 (ends ++ more) ys)) (replicate 68 0) (replicate 68 0)
    (within_longer (17 * length ends) 68 (groups (cut 0 ends xs)) (groups (cut 0 (ends ++ more) ys)) (most (length ends) few) (groups_fall 0 ends more xs ys short long f))
  where
    most : (n : ℕ) → n ≤ 4 → 17 * n ≤ 68
    most n l = omega arith

-- ---- one part more

up_to_last : (k : ℕ) (es : List ℕ) → AreShort k es → k ≤ last_end k es
up_to_last k [] s = same k
  where
    same : (k : ℕ) → k ≤ k
    same k = omega arith
up_to_last k (e ∷ es) s = less k e (last_end e es) s.0 (up_to_last e es s.2)
  where
    less : (a b c : ℕ) → a ≤ b → b ≤ c → a ≤ c
    less a b c p q = omega arith

drop_left : (k : ℕ) (xs more : List ℕ) → k ≤ length xs → drop k (xs ++ more) ≡ drop k xs ++ more
drop_left zero xs more l = refl
drop_left (suc k) [] more l = absurd (none k l)
  where
    none : (k : ℕ) → suc k ≤ 0 → ⊥
    none k l = omega arith
drop_left (suc k) (x ∷ xs) more l = drop_left k xs more (less k (length xs) l)
  where
    less : (x y : ℕ) → suc x ≤ suc y → x ≤ y
    less x y l = omega arith

take_left : (k : ℕ) (xs more : List ℕ) → k ≤ length xs → take k (xs ++ more) ≡ take k xs
take_left zero xs more l = refl
take_left (suc k) [] more l = absurd (none k l)
  where
    none : (k : ℕ) → suc k ≤ 0 → ⊥
    none k l = omega arith
take_left (suc k) (x ∷ xs) more l = ap (λ ys. x ∷ ys) (take_left k xs more (less k (length xs) l))
  where
    less : (x y : ℕ) → suc x ≤ suc y → x ≤ y
    less x y l = omega arith

part_left : (k e : ℕ) (xs more : List ℕ) → k ≤ e → e ≤ length xs → take (e - k) (drop k (xs ++ more)) ≡ take (e - k) (drop k xs)
part_left k e xs more l m =
    ap (take (e - k)) (drop_left k xs more (less k e (length xs) l m))
    ∙ take_left (e - k) (drop k xs) more (subst (λ (n : ℕ). e - k ≤ n) (sym (length-drop k xs)) (part k e (length xs) m))
  where
    less : (a b c : ℕ) → a ≤ b → b ≤ c → a ≤ c
    less a b c p q = omega arith

    part : (k e n : ℕ) → e ≤ n → e - k ≤ n - k
    part k e n l = omega arith

groups_open : (k e : ℕ) (ends xs more : List ℕ) → AreShort k ends → length xs ≡ last_end k ends
    → FallsWithin (17 * length ends + 1) (groups (cut k (ends ++ e ∷ []) (xs ++ more))) (groups (cut k ends xs))
groups_open k e [] xs more short long = within_longer 1 (17 * 0 + 1) (groups (cut k (e ∷ []) (xs ++ more))) (groups (cut k [] xs)) (same tt) (inl (less tt))
  where
    same : Unit {0} → 1 ≤ 17 * 0 + 1
    same x = omega arith

    less : Unit {0} → 0 < 1
    less x = omega arith
groups_open k e (d ∷ es) xs more short long =
    subst (λ (p : List ℕ). FallsWithin (17 * suc (length es) + 1) (group p ++ groups (cut d (es ++ e ∷ []) (xs ++ more))) (group (take (d - k) (drop k xs)) ++ groups (cut d es xs)))
    (sym (part_left k d xs more short.0 (subst (λ (n : ℕ). d ≤ n) (sym long) (up_to_last d es short.2))))
    (within_longer (17 + (17 * length es + 1)) (17 * suc (length es) + 1) _ _ (sum (length es))
    (subst (λ (n : ℕ). FallsWithin (n + (17 * length es + 1)) (group (take (d - k) (drop k xs)) ++ groups (cut d (es ++ e ∷ []) (xs ++ more))) (group (take (d - k) (drop k xs)) ++ groups (cut d es xs)))
    (group_length (take (d - k) (drop k xs)))
    (behind_most (17 * length es + 1) (group (take (d - k) (drop k xs))) (group (take (d - k) (drop k xs))) (groups (cut d (es ++ e ∷ []) (xs ++ more))) (groups (cut d es xs))
    (most_self (group (take (d - k) (drop k xs)))) (groups_open d e es xs more short.2 long))))
  where
    sum : (n : ℕ) → 17 + (17 * n + 1) ≤ 17 * suc n + 1
    sum n = omega arith

pub open_law : (ends xs more : List ℕ) (e : ℕ) → length ends ≤ 3 → AreShort 0 ends → length xs ≡ last_end 0 ends
    → LexBelow (levels_of (ends ++ e ∷ []) (xs ++ more)) (levels_of ends xs)
open_law ends xs more e few short long =
    falls_below 68 (groups (cut 0 (ends ++ e ∷ []) (xs ++ more))) (groups (cut 0 ends xs)) (replicate 68 0) (replicate 68 0)
    (within_longer (17 * length ends + 1) 68 _ _ (most (length ends) few) (groups_open 0 e ends xs more short long))
  where
    most : (n : ℕ) → n ≤ 3 → 17 * n + 1 ≤ 68
    most n l = omega arith

-- ---- small numbers

module _ (z : ℕ) (one : 1 ≤ z) where
  all_append : (xs ys : List ℕ) → AllWithin z xs → AllWithin z ys → AllWithin z (xs ++ ys)
  all_append [] ys p q = q
  all_append (x ∷ xs) ys p q = (p.0, all_append xs ys p.1 q)

  all_take : (n : ℕ) (xs : List ℕ) → AllWithin z xs → AllWithin z (take n xs)
  all_take zero xs p = tt
  all_take (suc n) [] p = tt
  all_take (suc n) (x ∷ xs) p = (p.0, all_take n xs p.1)

  all_drop : (n : ℕ) (xs : List ℕ) → AllWithin z xs → AllWithin z (drop n xs)
  all_drop zero xs p = p
  all_drop (suc n) [] p = tt
  all_drop (suc n) (x ∷ xs) p = all_drop n xs p.1

  all_zeros : (n : ℕ) → AllWithin z (replicate n 0)
  all_zeros zero = tt
  all_zeros (suc n) = (least z, all_zeros n)
    where
      least : (z : ℕ) → 0 ≤ z
      least z = omega arith

  all_pad : (n : ℕ) (xs : List ℕ) → AllWithin z xs → AllWithin z (pad n xs)
  all_pad n xs p = all_take n (xs ++ replicate n 0) (all_append xs (replicate n 0) p (all_zeros n))

  all_groups : (k : ℕ) (ends xs : List ℕ) → AllWithin z xs → AllWithin z (groups (cut k ends xs))
  all_groups k [] xs p = all_pad 17 (1 ∷ []) (one, tt)
  all_groups k (e ∷ es) xs p =
      all_append (group (take (e - k) (drop k xs))) (groups (cut e es xs))
      (all_pad 17 (0 ∷ take (e - k) (drop k xs)) (least z, all_take (e - k) (drop k xs) (all_drop k xs p))) (all_groups e es xs p)
    where
      least : (z : ℕ) → 0 ≤ z
      least z = omega arith

  pub all_levels : (ends xs : List ℕ) → AllWithin z xs → AllWithin z (levels_of ends xs)
  all_levels ends xs p = all_pad 68 (groups (cut 0 ends xs)) (all_groups 0 ends xs p)

pub levels_within : (z : ℕ) (ends xs : List ℕ) → 1 ≤ z → AllWithin z xs → AllWithin z (levels_of ends xs)
levels_within z ends xs one p = all_levels z one ends xs p

pub levels_length : (ends xs : List ℕ) → length (levels_of ends xs) ≡ 68
levels_length ends xs = length-take-to 68 (groups (cut 0 ends xs)) (replicate 68 0) (length-replicate {A = ℕ} 68 0)
