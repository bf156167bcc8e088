-- Entries in order: the same whatever order they were put in, and the greatest of a heap comes first.
use Rattle.std.proofs.Common.{◌≡◌, refl, sym, ◌∙◌, ap, subst, ℕ, ◌+◌, ◌≤◌, ◌<◌, ◌==◌, Bool, true, false, cond, ◌||◌, ◌&&◌, List, [], ◌∷◌, map, length, arith}
use Rattle.std.specs.Prelude.{nat_lt, slice_index_or, Some, Result, Ok, Err, IsOk, OnOk}
use Rattle.std.specs.List.{slice_get}
use Rattle.std.specs.List.{sum_by}
use Rattle.std.specs.List.Sorted.{IsPermutation}
use Rattle.std.specs.BinaryHeap.{IsUpperBound}
use Rattle.std.specs.Ordering.{ordering_then, is_lt}
use Rattle.std.specs.declared.cmp.Ordering.TheVariants.{Less, Equal, Greater}
use Rattle.std.specs.declared.cmp.Reverse.{Reverse}
use Rattle.std.proofs.lemmas.Bool.Decides.{nat_tests}
use Rattle.std.proofs.lemmas.List.Sorted.{sum_by-IsPermutation, IsPermutation-map}
use Rattle.std.proofs.lemmas.List.Sums.{sum_by-cons}
use Rattle.cyp_queue.specs.declared.entry.Entry.{Entry}
use Rattle.cyp_queue.specs.Entries.{is_before, put_entry, NoneBefore, AreInOrder}
use Rattle.cyp_queue.specs.Kept.{heap_order, in_order, entries_of}

-- ---- the order of two and of three

same_entry : (a b : Entry) → a.priority ≡ b.priority → a.leaf ≡ b.leaf → a ≡ b
same_entry a b e f i = record { priority = e i; leaf = f i }

neither_before : (a b : Entry) → is_before a b ≡ false → is_before b a ≡ false → a ≡ b
neither_before a b e f =
    let p : a.priority ≡ b.priority = grind (arith, nat_tests) in
    let l : a.leaf ≡ b.leaf = grind (arith, nat_tests) in
    same_entry a b p l

before_not : (a b : Entry) → is_before a b ≡ true → is_before b a ≡ false
before_not a b e = grind (arith, nat_tests)

never_before : (a b c : Entry) → is_before b a ≡ false → is_before c b ≡ false → is_before c a ≡ false
never_before a b c e f = grind (arith, nat_tests)

-- ---- how often an entry is there

abbrev is_same : Entry → Entry → Bool
is_same a b = (a.priority == b.priority) && (a.leaf == b.leaf)

abbrev one : Entry → Entry → ℕ
one e x = cond (is_same e x) 1 0

abbrev times : Entry → List Entry → ℕ
times e [] = 0
times e (x ∷ xs) = one e x + times e xs

one_self : (e : Entry) → one e e ≡ 1
one_self e = grind (arith, nat_tests)

times_sum : (e : Entry) (xs : List Entry) → times e xs ≡ sum_by (λ x. one e x) xs
times_sum e [] = refl
times_sum e (x ∷ xs) = ap (λ (n : ℕ). one e x + n) (times_sum e xs) ∙ sym (sum_by-cons (λ y. one e y) x xs)

times_permutation : (e : Entry) (xs ys : List Entry) → IsPermutation xs ys → times e ys ≡ times e xs
times_permutation e xs ys h = times_sum e ys ∙ sum_by-IsPermutation (λ x. one e x) xs ys h ∙ sym (times_sum e xs)

put_by : (e x y : Entry) (ys : List Entry) (b : Bool) → times e (put_entry x ys) ≡ one e x + times e ys → times e (cond b (y ∷ put_entry x ys) (x ∷ y ∷ ys)) ≡ one e x + (one e y + times e ys)
put_by e x y ys true h = omega (arith, h)
put_by e x y ys false h = refl

times-put : (e x : Entry) (xs : List Entry) → times e (put_entry x xs) ≡ one e x + times e xs
times-put e x [] = refl
times-put e x (y ∷ ys) = put_by e x y ys (is_before y x) (times-put e x ys)

times-in_order : (e : Entry) (xs : List Entry) → times e (in_order xs) ≡ times e xs
times-in_order e [] = refl
times-in_order e (x ∷ xs) = omega (arith, times-put e x (in_order xs), times-in_order e xs)

-- ---- what was put in order is in order

none_before_put_by : (a x y : Entry) (ys : List Entry) (b : Bool) → is_before x a ≡ false → is_before y a ≡ false → NoneBefore a ys → NoneBefore a (put_entry x ys) → NoneBefore a (cond b (y ∷ put_entry x ys) (x ∷ y ∷ ys))
none_before_put_by a x y ys true e f h k = (f, k)
none_before_put_by a x y ys false e f h k = (e, (f, h))

none_before_put : (a x : Entry) (xs : List Entry) → is_before x a ≡ false → NoneBefore a xs → NoneBefore a (put_entry x xs)
none_before_put a x [] e h = (e, tt)
none_before_put a x (y ∷ ys) e (f, h) = none_before_put_by a x y ys (is_before y x) e f h (none_before_put a x ys e h)

none_before_after : (a x : Entry) (xs : List Entry) → is_before a x ≡ false → NoneBefore a xs → NoneBefore x xs
none_before_after a x [] e h = tt
none_before_after a x (y ∷ ys) e (f, h) = (never_before x a y e f, none_before_after a x ys e h)

put_in_order_by : (x y : Entry) (ys : List Entry) (b : Bool) → is_before y x ≡ b → NoneBefore y ys → AreInOrder ys → AreInOrder (put_entry x ys) → AreInOrder (cond b (y ∷ put_entry x ys) (x ∷ y ∷ ys))
put_in_order_by x y ys true e h k m = (none_before_put y x ys (before_not y x e) h, m)
put_in_order_by x y ys false e h k m = ((e, none_before_after y x ys e h), (h, k))

put_in_order : (x : Entry) (xs : List Entry) → AreInOrder xs → AreInOrder (put_entry x xs)
put_in_order x [] h = (tt, tt)
put_in_order x (y ∷ ys) (h, k) = put_in_order_by x y ys (is_before y x) refl h k (put_in_order x ys k)

pub are_in_order : (xs : List Entry) → AreInOrder (in_order xs)
are_in_order [] = tt
are_in_order (x ∷ xs) = put_in_order x (in_order xs) (are_in_order xs)

-- ---- lists in order with the same entries are the same

there_by : (x a y : Entry) (ys : List Entry) (b : Bool) → is_same x y ≡ b → is_before y a ≡ false → (1 ≤ times x ys → is_before x a ≡ false) → 1 ≤ one x y + times x ys → is_before x a ≡ false
there_by x a y ys true s e rest m = grind (arith, nat_tests)
there_by x a y ys false s e rest m = rest (let none : one x y ≡ 0 = ap (λ (b : Bool). cond b 1 0) s in omega arith)

there : (x a : Entry) (xs : List Entry) → NoneBefore a xs → 1 ≤ times x xs → is_before x a ≡ false
there x a [] h m = absurd (omega arith)
there x a (y ∷ ys) (e, h) m = there_by x a y ys (is_same x y) refl e (there x a ys h) m

not_self : (a b : Entry) → is_same a b ≡ true → is_before a b ≡ false
not_self a b e = grind (arith, nat_tests)

first_by : (x y : Entry) (ys : List Entry) (b : Bool) → is_same x y ≡ b → NoneBefore y ys → 1 ≤ one x y + times x ys → is_before x y ≡ false
first_by x y ys true s k m = not_self x y s
first_by x y ys false s k m = there x y ys k (let none : one x y ≡ 0 = ap (λ (b : Bool). cond b 1 0) s in omega arith)

least : (x y : Entry) (xs ys : List Entry) → NoneBefore x xs → NoneBefore y ys → ((e : Entry) → times e (x ∷ xs) ≡ times e (y ∷ ys)) → x ≡ y
least x y xs ys h k m =
    neither_before x y (first_by x y ys (is_same x y) refl k (omega (arith, m x, one_self x))) (first_by y x xs (is_same y x) refl h (omega (arith, m y, one_self y)))

same_lists : (xs ys : List Entry) → AreInOrder xs → AreInOrder ys → ((e : Entry) → times e xs ≡ times e ys) → xs ≡ ys
same_lists [] [] h k m = refl
same_lists [] (y ∷ ys) h k m = absurd (omega (arith, m y, one_self y))
same_lists (x ∷ xs) [] h k m = absurd (omega (arith, m x, one_self x))
same_lists (x ∷ xs) (y ∷ ys) (g, h) (j, k) m =
    let first : x ≡ y = least x y xs ys g j m in
    let rest : xs ≡ ys = same_lists xs ys h k (λ e. omega (arith, m e, ap (one e) first)) in
    (λ i. first i ∷ rest i)

pub in_order-permutation : (xs ys : List Entry) → IsPermutation xs ys → in_order xs ≡ in_order ys
in_order-permutation xs ys h =
    same_lists (in_order xs) (in_order ys) (are_in_order xs) (are_in_order ys)
    (λ e. times-in_order e xs ∙ sym (times_permutation e xs ys h) ∙ sym (times-in_order e ys))

pub entries-permutation : (xs ys : List (Reverse Entry)) → IsPermutation xs ys → entries_of xs ≡ entries_of ys
entries-permutation xs ys h = in_order-permutation (map (λ x. x.0) xs) (map (λ x. x.0) ys) (IsPermutation-map (λ x. x.0) xs ys h)

-- ---- the greatest of a heap

by_tests : (p q r s : Bool) → is_lt (ordering_then (cond p Less (cond q Equal Greater)) (cond r Less (cond s Equal Greater))) ≡ (p || (q && r))
by_tests true q r s = refl
by_tests false true true s = refl
by_tests false true false true = refl
by_tests false true false false = refl
by_tests false false r s = refl

is_lt-order : (x y : Reverse Entry) → is_lt (heap_order x y) ≡ is_before y.0 x.0
is_lt-order x y = by_tests (nat_lt y.0.priority x.0.priority) (y.0.priority == x.0.priority) (nat_lt y.0.leaf x.0.leaf) (y.0.leaf == x.0.leaf)

none_before_bound : (x : Reverse Entry) (xs : List (Reverse Entry)) → IsUpperBound heap_order x xs → NoneBefore x.0 (map (λ y. y.0) xs)
none_before_bound x [] h = tt
none_before_bound x (y ∷ ys) h = (sym (is_lt-order x y) ∙ h.0, none_before_bound x ys h.1)

none_before_sorted : (a : Entry) (xs : List Entry) → NoneBefore a xs → NoneBefore a (in_order xs)
none_before_sorted a [] h = tt
none_before_sorted a (x ∷ xs) (e, h) = none_before_put a x (in_order xs) e (none_before_sorted a xs h)

put_first : (a : Entry) (xs : List Entry) → NoneBefore a xs → put_entry a xs ≡ a ∷ xs
put_first a [] h = refl
put_first a (x ∷ xs) (e, h) = ap (λ (b : Bool). cond b (x ∷ put_entry a xs) (a ∷ x ∷ xs)) e

-- what no other is greater than comes first
pub greatest_first : (x : Reverse Entry) (rest : List (Reverse Entry)) → IsUpperBound heap_order x rest → entries_of (x ∷ rest) ≡ x.0 ∷ entries_of rest
greatest_first x rest h = put_first x.0 (entries_of rest) (none_before_sorted x.0 (map (λ y. y.0) rest) (none_before_bound x rest h))

-- ---- what a heap shows and takes

-- the first of the heap is the first of its entries
pub peeked : (items : List (Reverse Entry)) (x : Reverse Entry) → 0 < length items → x ≡ slice_index_or items 0 x → IsUpperBound heap_order x items → Some x.0 ≡ slice_get (entries_of items) 0
peeked [] x h e b = absurd (omega arith)
peeked (y ∷ rest) x h e b =
    let rest_bound : IsUpperBound heap_order y rest = subst (λ (z : Reverse Entry). IsUpperBound heap_order z rest) e b.1 in
    ap (λ (z : Reverse Entry). Some z.0) e ∙ sym (ap (λ (es : List Entry). slice_get es 0) (greatest_first y rest rest_bound))

-- the entries of a heap are the one that was taken, and the others
pub popped : (items rest : List (Reverse Entry)) (x : Reverse Entry) → IsPermutation items (x ∷ rest) → IsUpperBound heap_order x rest → entries_of items ≡ x.0 ∷ entries_of rest
popped items rest x p b = entries-permutation items (x ∷ rest) p ∙ greatest_first x rest b

pub ok_gives : {T E P : Type 0} (r : Result T E) → IsOk r → OnOk r P → P
ok_gives (Ok x) e h = h
ok_gives (Err x) e h = let bad : false ≡ true = e in cc
