-- The least fault of two lists is the lesser of both least faults.
use Rattle.std.proofs.Common.{List, None, Option, Some, [], add-one, ap, arith, cond, drop, drop-cons, false, length, refl, suc, sym, true, ℕ, ◌+◌, ◌++◌, ◌<◌, ◌∙◌, ◌∷◌, ◌≡◌}
use Rattle.std.specs.Prelude.{Bool, nat_lt, ◌&&◌, ◌==◌, ◌||◌, flat_map, get_or}
use Rattle.std.proofs.lemmas.Bool.Decides.{nat_tests}
use Rattle.cyp_lex.specs.FaultNumber.{fault_number}
use Rattle.cyp_lex.specs.declared.fault.Fault.{Fault}
use Rattle.cyp_names.specs.LeastFaults.{lesser_of}
use Rattle.cyp_names.specs.FaultOrder.{is_before, least_fault, lesser}

-- an order by the first number, then by the second
abbrev pub before : ℕ → ℕ → ℕ → ℕ → Bool
before p m q n = nat_lt p q || ((p == q) && nat_lt m n)

before_all : (p m q n r k : ℕ) → before p m q n ≡ true → before q n r k ≡ true → before p m r k ≡ true
before_all p m q n r k e f = grind (arith, nat_tests)

behind_all : (p m q n r k : ℕ) → before p m q n ≡ false → before q n r k ≡ false → before p m r k ≡ false
behind_all p m q n r k e f = grind (arith, nat_tests)

abbrev pick : Fault → Fault → Fault
pick a b = cond (is_before b a) b a

pick_assoc : (a b c : Fault) → pick (pick a b) c ≡ pick a (pick b c)
pick_assoc a b c = by_tests (is_before b a) (is_before c b) refl refl
  where
    by_tests : (p q : Bool) → is_before b a ≡ p → is_before c b ≡ q → pick (cond p b a) c ≡ pick a (cond q c b)
    by_tests true true e f =
        let whole : is_before c a ≡ true = before_all c.place (fault_number c.kind) b.place (fault_number b.kind) a.place (fault_number a.kind) f e in
        rw (f, whole) refl
    by_tests true false e f = rw (f, e) refl
    by_tests false true e f = refl
    by_tests false false e f =
        let whole : is_before c a ≡ false = behind_all c.place (fault_number c.kind) b.place (fault_number b.kind) a.place (fault_number a.kind) f e in
        rw (whole, e) refl

pub lesser_of-assoc : (x y z : Option Fault) → lesser_of (lesser_of x y) z ≡ lesser_of x (lesser_of y z)
lesser_of-assoc None y z = refl
lesser_of-assoc (Some a) None z = refl
lesser_of-assoc (Some a) (Some b) None = refl
lesser_of-assoc (Some a) (Some b) (Some c) = ap (λ (f : Fault). Some f) (pick_assoc a b c)

pub lesser_of-none : (x : Option Fault) → lesser_of x None ≡ x
lesser_of-none None = refl
lesser_of-none (Some a) = refl

pub least_fault-append : (xs ys : List Fault) → least_fault (xs ++ ys) ≡ lesser_of (least_fault xs) (least_fault ys)
least_fault-append [] ys = refl
least_fault-append (x ∷ xs) ys = ap (lesser_of (Some x)) (least_fault-append xs ys) ∙ again (least_fault xs) (least_fault ys)
  where
    again : (p q : Option Fault) → lesser_of (Some x) (lesser_of p q) ≡ lesser_of (Some (lesser x p)) q
    again p q = rw (← lesser_of-assoc (Some x) p q) refl

-- ---- one item after the other

-- the faults of a part, and then those of what is left
pub least_parts : (found f : Option Fault) (xs ys : List Fault) → f ≡ least_fault xs → lesser_of (lesser_of found f) (least_fault ys) ≡ lesser_of found (least_fault (xs ++ ys))
least_parts found f xs ys e = rw (e, least_fault-append, lesser_of-assoc) refl

pub least_more : {A : Type 0} (h : A → List Fault) (items : List A) (k : ℕ) (item : A) (found f found' whole : Option Fault)
    → k < length items → item ≡ get_or items k item → f ≡ least_fault (h item) → found' ≡ lesser_of found f
    → lesser_of found (least_fault (flat_map h (drop k items))) ≡ whole
    → lesser_of found' (least_fault (flat_map h (drop (k + 1) items))) ≡ whole
least_more {A} h items k item found f found' whole below is e more w =
    let left : List A = drop (suc k) items in
    let parts : drop k items ≡ item ∷ left = drop-cons items k item below ∙ ap (λ (x : A). x ∷ left) (sym is) in
    rw (add-one, more)
    (least_parts found f (h item) (flat_map h left) e ∙ ap (λ (xs : List A). lesser_of found (least_fault (flat_map h xs))) (sym parts) ∙ w)

-- ---- two and three parts

pub least_of_two : (a b c : Option Fault) (xs ys : List Fault) → a ≡ least_fault xs → b ≡ least_fault ys → c ≡ lesser_of a b → c ≡ least_fault (xs ++ ys)
least_of_two a b c xs ys e f is = is ∙ (λ i. lesser_of (e i) (f i)) ∙ sym (least_fault-append xs ys)
