-- The order of entries, and an entry put among others in order.
use Rattle.std.proofs.Common.{◌≡◌, refl, Bool, true, false, cond, List, [], ◌∷◌, arith}
use Rattle.std.proofs.lemmas.Bool.Decides.{nat_tests}
use Rattle.cyp_queue.specs.declared.entry.Entry.{Entry}
use Rattle.cyp_queue.specs.Entries.{is_before, put_entry, NoneBefore, AreInOrder}

pub neither_before : (a b : Entry) → is_before a b ≡ false → is_before b a ≡ false → a ≡ b
neither_before a b e f =
    let p : a.priority ≡ b.priority = grind (arith, nat_tests) in
    let l : a.leaf ≡ b.leaf = grind (arith, nat_tests) in
    λ i. record { priority = p i; leaf = l i }

pub before_not : (a b : Entry) → is_before a b ≡ true → is_before b a ≡ false
before_not a b e = grind (arith, nat_tests)

pub never_before : (a b c : Entry) → is_before b a ≡ false → is_before c b ≡ false → is_before c a ≡ false
never_before a b c e f = grind (arith, nat_tests)

none_before_put_by : (a x y : Entry) (ys : List Entry) (b : Bool) → is_before x a ≡ false → is_before y a ≡ false → NoneBefore a ys → NoneBefore a (put_entry x ys) → NoneBefore a (cond b (y ∷ put_entry x ys) (x ∷ y ∷ ys))
none_before_put_by a x y ys true e f h k = (f, k)
none_before_put_by a x y ys false e f h k = (e, (f, h))

none_before_put : (a x : Entry) (xs : List Entry) → is_before x a ≡ false → NoneBefore a xs → NoneBefore a (put_entry x xs)
none_before_put a x [] e h = (e, tt)
none_before_put a x (y ∷ ys) e (f, h) = none_before_put_by a x y ys (is_before y x) e f h (none_before_put a x ys e h)

none_before_after : (a x : Entry) (xs : List Entry) → is_before a x ≡ false → NoneBefore a xs → NoneBefore x xs
none_before_after a x [] e h = tt
none_before_after a x (y ∷ ys) e (f, h) = (never_before x a y e f, none_before_after a x ys e h)

put_in_order_by : (x y : Entry) (ys : List Entry) (b : Bool) → is_before y x ≡ b → NoneBefore y ys → AreInOrder ys → AreInOrder (put_entry x ys) → AreInOrder (cond b (y ∷ put_entry x ys) (x ∷ y ∷ ys))
put_in_order_by x y ys true e h k m = (none_before_put y x ys (before_not y x e) h, m)
put_in_order_by x y ys false e h k m = ((e, none_before_after y x ys e h), (h, k))

pub put_in_order : (x : Entry) (xs : List Entry) → AreInOrder xs → AreInOrder (put_entry x xs)
put_in_order x [] h = (tt, tt)
put_in_order x (y ∷ ys) (h, k) = put_in_order_by x y ys (is_before y x) refl h k (put_in_order x ys k)
